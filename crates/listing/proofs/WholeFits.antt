-- No listing is longer than the array that is lent for it. Assumes nothing.
use Prim.Native.Nat.{ℕ, ◌≤◌}
use native.Mathlib.Omega.{arith}
use mathlib.Core.Path.{◌≡◌, refl, sym, ap, ◌∙◌}
use mathlib.Core.List.{List}
use lib.ListN.{length, take}
use lib.Seq.{sets, length-sets, length-take-le}
use lib.Ieee.{Float}
use Rattle.bodies.specs.Check.{Checked, number_of, place_of}
use Rattle.mechanism.specs.declared.Mechanism.{Mechanism}
use Rattle.bodies.specs.declared.Problem.{Problem}
use Rattle.bodies.specs.declared.pose.Pose.{Pose}
use Rattle.shown_rows.specs.Rows.{rows_checked}
use Rattle.sheet.specs.Read.{sheet_of}
use Rattle.sheet.specs.Posed.{pose_of}
use Rattle.sheet.specs.declared.Sheet.{Sheet}
use Rattle.reading_lines.specs.Readings.{refusal, read_if, longest}
use Rattle.listing.specs.Listing.{posed_if, posed_lines, sheet_if, listing_of}
use Rattle.reading_lines.proofs.WholeSizes.{all-fits}
use Rattle.reading_lines.proofs.WholeLaws.{refusal-few}
use Rattle.std.proofs.Common.{Result, Ok, Err}

refusal-fits : (p : Problem) → length (refusal p) ≤ longest
refusal-fits p = omega (arith, refusal-few (number_of p) (place_of p))

read_fits : (m : Mechanism) (q : Pose) (margin : Float) (c : Checked) → rows_checked m q 256 256 4096 4096 ≡ c → length (read_if c m q margin) ≤ longest
read_fits m q margin (Ok tt) e = all-fits m q margin e
read_fits m q margin (Err p) e = refusal-fits p

posed_fits : (m : Mechanism) (margin : Float) (r : Result Pose Problem) → length (posed_if r m margin) ≤ longest
posed_fits m margin (Ok q) = read_fits m q margin (rows_checked m q 256 256 4096 4096) refl
posed_fits m margin (Err p) = refusal-fits p

sheet_fits : (r : Result Sheet Problem) → length (sheet_if r) ≤ longest
unfolding posed_lines
sheet_fits (Ok s) = posed_fits s.mechanism s.margin (pose_of s.mechanism s.entries)
sheet_fits (Err p) = refusal-fits p

pub listing_fits : (text : List ℕ) → length (listing_of text) ≤ longest
unfolding listing_of
listing_fits text = sheet_fits (sheet_of text)

-- what a caller needs to take the listing out of the array
module _ (text out₀ : List ℕ) {out : List ℕ} {r : ℕ} (l : length out₀ ≡ longest) (w : (r ≡ length (listing_of text)) × (out ≡ sets out₀ 0 (listing_of text))) where
  pub taken-inside : r ≤ length out
  taken-inside =
      let n : length out ≡ length out₀ = ap length w.1 ∙ length-sets out₀ 0 (listing_of text) in
      omega (arith, w.0, n, l, listing_fits text)

  pub taken-long : r ≡ length (take r out)
  taken-long = sym (length-take-le r out taken-inside)
