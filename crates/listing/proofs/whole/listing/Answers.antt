use Prim.Native.Nat.{ℕ}
use native.Mathlib.Omega.{arith}
use mathlib.Core.Path.{◌≡◌, sym, ap, ◌∙◌}
use mathlib.Core.List.{List}
use lib.ListN.{length}
use lib.Seq.{sets}
use Rattle.reading_lines.specs.Lines.{Wrote}
use Rattle.listing.specs.Listing.{sheet_if, listing_of}
use Rattle.listing.proofs.WholeFits.{listing_fits}
use Rattle.listing.proofs.whole.listing.Goals as goal

-- from the front
listed : {l m xs ys : List ℕ} {r : ℕ} → ys ≡ xs → Wrote l 0 xs r m → (r ≡ length ys) × (m ≡ sets l 0 ys)
listed {l} {m} {xs} {ys} {r} e w = let n = ap length e in (omega (arith, w.behind, n), w.there ∙ ap (sets l 0) (sym e))

pub returns-in-Ok : goal.returns-in-Ok
unfolding listing_of
returns-in-Ok c =
    let w = listed (ap sheet_if (sym c.in-Ok.ensures)) c.posed_lines.ensures in
    record { value = w; fits = omega (arith, w.0, listing_fits c.args.text.now) }

pub returns-in-Err : goal.returns-in-Err
unfolding listing_of
returns-in-Err c =
    let w = listed (ap sheet_if (sym c.in-Err.ensures)) c.refused.ensures in
    record { value = w; fits = omega (arith, w.0, listing_fits c.args.text.now) }
