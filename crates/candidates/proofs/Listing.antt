-- One turn of the loops that write the candidates of a list's elements. Assumes nothing.
use Prim.Native.Nat.{ℕ, ◌+◌, ◌*◌, ◌<◌, ◌≤◌}
use native.Mathlib.Omega.{arith}
use native.Mathlib.Nat.{add-mul}
use mathlib.Core.Path.{◌≡◌, ap}
use mathlib.Core.List.{List}
use lib.ListN.{length, get_or}
use Rattle.geometry.specs.declared.signed.Proximity.{Proximity}
use Rattle.mechanism.specs.declared.features.Piece.{Piece}
use Rattle.proximities.specs.declared.Candidate.{Candidate}
use Rattle.proximities.specs.Proximities.{reading, reading_at, Written}
use Rattle.proximities.proofs.Wrote.{wrote_same, wrote_read, Wrote, wrote_more}
use Rattle.candidates.specs.Candidates.{candidates_of}
use Rattle.candidates.specs.declared.Reading.{Reading}
use Rattle.std.proofs.Common.{Option, Some, None}

-- ---- one reading
reading-short : (a b : Piece) (who : ℕ) (found : Option Proximity) → length (reading a b who found) ≤ 1
reading-short a b who None = omega arith
reading-short a b who (Some x) = omega arith

module _ (r : Reading) {to to' : ℕ} {before after : List Candidate} (room : to < length before)
    (w : Written (reading_at (length before) to r.a r.b r.who r.near) to to' before after) where
  pub put_one : Written (candidates_of r) to to' before after
  put_one = wrote_read room w

  pub put-few : to' ≤ to + 1
  put-few = let e = put_one.end in let s = reading-short r.a r.b r.who r.near in omega (arith, e, s)

-- of i turns of b each, and of one more
pub next_few : (i b at to to' : ℕ) → to ≤ at + i * b → to' ≤ to + b → to' ≤ at + (i + 1) * b
next_few i b at to to' h k = let e = add-mul i 1 b in omega arith

-- the candidates of one element more
pub turn : {A : Type 0} (f : A → List Candidate) (l : List A) {at to to' i : ℕ} {before mid after : List Candidate} (x : A) → Wrote f l at to i before mid
    → i < length l → x ≡ get_or l i x → Written (f x) to to' mid after → Wrote f l at to' (i + 1) before after
turn f l x w h e v = wrote_more w x h (wrote_same (ap f e) v)
