-- What the table of limits says of a tally, and what a line then has room for. Assumes nothing.
use Prim.Native.Nat.{ℕ, ◌≤◌}
use native.Mathlib.Omega.{arith}
use mathlib.Core.Path.{◌≡◌}
use mathlib.Core.Bool.{Bool, true, false, ◌&&◌, cond}
use mathlib.Core.List.{List, [], ◌∷◌}
use lib.Dec.{leb}
use borrow.Author.Tests.{leb-true}
use Rattle.laws.proofs.Choice.{both}
use Rattle.text.specs.Fields.{fits_form, field_at, number_at}
use Rattle.text.specs.Records.{Form, forms, first_fit, record_of}
use Rattle.text.proofs.FieldLaws.{number_small}
use Rattle.text.specs.declared.records.Record.{Record}
use Rattle.text.specs.declared.records.Record.TheVariants.{Coords, Joined, Drawn, Edge, Paired, OnA, OnB, Margin, Turned, Malformed}
use Rattle.sheet.specs.declared.limits.Side.{Side}
use Rattle.sheet.specs.declared.limits.Tally.{Tally}
use Rattle.sheet.specs.Limits.{Bounds, Narrow, no_tally, counted, side_within, within_limits}
use Rattle.sheet.specs.Draft.{Room}

side-bounds : (s : Side) → side_within s ≡ true → (s.ranges ≤ 4) × (s.segs ≤ 12)
side-bounds s e =
    let h = both (leb s.ranges 4) (leb s.segs 12) e in
    (leb-true s.ranges 4 h.0, leb-true s.segs 12 h.1)

pub bounds : (t : Tally) → within_limits t ≡ true → Bounds t
unfolding within_limits
bounds t e =
    let h = both (leb t.coords 16) _ e in
    let i = both (leb t.bodies 15) _ h.1 in
    let j = both (leb t.parts 32 && (leb t.drawn 48 && leb t.segs 384)) _ i.1 in
    let k = both (leb t.parts 32) _ j.0 in
    let l = both (leb t.drawn 48) (leb t.segs 384) k.1 in
    let m = both (leb t.pairs 16) _ j.1 in
    let n = both (side_within t.a) (side_within t.b) m.1 in
    record {
      coords = leb-true t.coords 16 h.0;
      bodies = leb-true t.bodies 15 i.0;
      parts = leb-true t.parts 32 k.0;
      drawn = leb-true t.drawn 48 l.0;
      segs = leb-true t.segs 384 l.1;
      pairs = leb-true t.pairs 16 m.0;
      a_ranges = (side-bounds t.a n.0).0;
      a_segs = (side-bounds t.a n.0).1;
      b_ranges = (side-bounds t.b n.1).0;
      b_segs = (side-bounds t.b n.1).1;
    }

pub no_tally-bounds : Bounds no_tally
no_tally-bounds = record {
  coords = omega arith;
  bodies = omega arith;
  parts = omega arith;
  drawn = omega arith;
  segs = omega arith;
  pairs = omega arith;
  a_ranges = omega arith;
  a_segs = omega arith;
  b_ranges = omega arith;
  b_segs = omega arith;
}

pub room : (t : Tally) (r : Record) → Bounds (counted t r) → Room t r
unfolding counted
room t (Coords n) w = tt
room t (Joined b) w = omega (arith, w.bodies)
room t (Drawn b r s) w = omega (arith, w.parts)
room t (Edge g) w = (w.parts, omega (arith, w.drawn))
room t (Paired g) w = omega (arith, w.pairs)
room t (OnA x) w = (w.pairs, omega (arith, w.a_ranges))
room t (OnB x) w = (w.pairs, omega (arith, w.b_ranges))
room t (Margin m) w = tt
room t (Turned e) w = tt
room t Malformed w = tt

-- ---- the ranges of a text: every form of the table makes a narrow record
abbrev Narrows : List Form → Type 0
Narrows [] = Unit {0}
Narrows (x ∷ xs) = ((fs : List (List ℕ)) → Narrow (x.make fs)) × Narrows xs

either : (b : Bool) (x y : Record) → Narrow x → Narrow y → Narrow (cond b x y)
either true x y p q = p
either false x y p q = q

narrow-fit : (xs : List Form) → Narrows xs → (fs : List (List ℕ)) → Narrow (first_fit xs fs)
unfolding first_fit
narrow-fit [] w fs = tt
narrow-fit (x ∷ xs) w fs = either (fits_form x.shape fs) (x.make fs) (first_fit xs fs) (w.0 fs) (narrow-fit xs w.1 fs)

end-small : (fs : List (List ℕ)) → number_at fs 4 ≤ 65535
end-small fs = number_small (field_at fs 4)

-- a record without a range
free : List (List ℕ) → Unit {0}
free fs = tt

pub narrow : (fs : List (List ℕ)) → Narrow (record_of fs)
narrow = narrow-fit forms (free, (free, (free, (free, (free, (free, (free, (free, (free, (free, (free, (free, (end-small, (end-small, (free, (free, tt))))))))))))))))
