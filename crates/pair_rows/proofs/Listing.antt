-- Rows written one behind the other into lent arrays: two hold a row an element, two hold one float a coordinate and row. Assumes nothing.
use Prim.Native.Nat.{ℕ, suc, ◌+◌, ◌*◌, ◌-◌, ◌<◌, ◌≤◌}
use native.Mathlib.Omega.{arith}
use native.Mathlib.Nat.{sub-zero, add-mul, mul-le-mul}
use mathlib.Core.Path.{◌≡◌, refl, sym, ap, subst, subst₂}
use mathlib.Core.Bool.{Bool, true, false}
use mathlib.Core.List.{List, ◌++◌, map}
use lib.Ieee.{Float}
use lib.ListN.{length, set, length-map}
use lib.Seq.{sets}
use Rattle.laws.specs.Lists.{flat}
use Rattle.laws.specs.Loops.{filter_in, Writing}
use Rattle.laws.proofs.Finite.{filter-length}
use Rattle.laws.proofs.Loops.{filter-yes, filter-no, filter-done}
use Rattle.laws.proofs.Writing.{starts, goes_on, puts, appends, ends, ends-count}
use Rattle.mechanism.specs.Rows.{RowLists}
use Rattle.pair_rows.specs.PairRows.{Put, Room}

-- ---- A loop over n indexes writes a row for each that passes: the first i are done, and `to` is the next row.
pub record Listing (pl : ℕ → List ℕ) (va gr sl : ℕ → List Float) (p : ℕ → Bool) (n coords at : ℕ) (before now : RowLists) (to i : ℕ) : Type 0 where
  pub placed : Writing before.places at (map pl (filter_in p n 0)) now.places to (map pl (filter_in p (n - i) i))
  pub valued : Writing before.values at (map va (filter_in p n 0)) now.values to (map va (filter_in p (n - i) i))
  pub grads : Writing before.grad (at * coords) (flat gr (filter_in p n 0)) now.grad (to * coords) (flat gr (filter_in p (n - i) i))
  pub slips : Writing before.slip (at * coords) (flat sl (filter_in p n 0)) now.slip (to * coords) (flat sl (filter_in p (n - i) i))

pub listing_start : (pl : ℕ → List ℕ) (va gr sl : ℕ → List Float) (p : ℕ → Bool) (n coords at : ℕ) (l : RowLists) → Listing pl va gr sl p n coords at l l at 0
listing_start pl va gr sl p n coords at l =
    let e : filter_in p (n - 0) 0 ≡ filter_in p n 0 = ap (λ (k : ℕ). filter_in p k 0) (sub-zero n) in
    record { placed = starts (ap (map pl) e); valued = starts (ap (map va) e); grads = starts (ap (flat gr) e); slips = starts (ap (flat sl) e) }

-- one more row of c floats
appends-row : {out₀ : List Float} {at₀ : ℕ} {all out : List Float} (to c : ℕ) {rest : List Float} (xs : List Float) {rest' out' : List Float}
    → rest ≡ xs ++ rest' → length xs ≡ c → out' ≡ sets out (to * c) xs → Writing out₀ at₀ all out (to * c) rest → Writing out₀ at₀ all out' ((to + 1) * c) rest'
appends-row {out₀} {at₀} {all} to c xs {rest'} e l o w =
    let m : to * c + length xs ≡ (to + 1) * c = let a = add-mul to 1 c in omega (arith, a, l) in
    subst₂ (λ (x : List Float) (k : ℕ). Writing out₀ at₀ all x k rest') (sym o) m (appends xs e w)

module _ {pl : ℕ → List ℕ} {va gr sl : ℕ → List Float} {p : ℕ → Bool} {n coords at : ℕ}
    {before now : RowLists} {to i : ℕ} (w : Listing pl va gr sl p n coords at before now to i) where
  -- the next row is one of n
  pub listing_next : i < n → p i ≡ true → to + 1 ≤ at + n
  listing_next h e =
      let c = w.placed.counted in
      let a = length-map (filter_in p (n - i) i) pl in
      let b = length-map (filter_in p n 0) pl in
      let f = filter-length p n 0 in
      let g : length (filter_in p (n - i) i) ≡ suc (length (filter_in p (n - (i + 1)) (i + 1))) = ap length (filter-yes p n i h e) in
      omega (arith, c, a, b, f, g)

  -- there is room for it
  pub listing_room : Room coords at n before → i < n → p i ≡ true → Room coords to 1 now
  listing_room r h e =
      let x = listing_next h e in
      let m : (to + 1) * coords ≤ (at + n) * coords = mul-le-mul x (let z : coords ≤ coords = omega arith in z) in
      let a = w.placed.long in
      let b = w.valued.long in
      let c = w.grads.long in
      let d = w.slips.long in
      let ra = r.places_room in
      let rb = r.values_room in
      let rc = r.grad_room in
      let rd = r.slip_room in
      record { places_room = omega (arith, x, a, ra); values_room = omega (arith, x, b, rb); grad_room = omega (arith, m, c, rc); slip_room = omega (arith, m, d, rd) }

  -- a row more
  pub listing_more : {next : RowLists} → i < n → p i ≡ true → length (gr i) ≡ coords → length (sl i) ≡ coords
      → next ≡ record { places = set now.places to (pl i); values = set now.values to (va i); grad = sets now.grad (to * coords) (gr i); slip = sets now.slip (to * coords) (sl i) }
      → Listing pl va gr sl p n coords at before next (to + 1) (i + 1)
  unfolding flat
  listing_more h e lg ls o =
      let f = filter-yes p n i h e in
      subst (λ (l : RowLists). Listing pl va gr sl p n coords at before l (to + 1) (i + 1)) (sym o)
      (record {
        placed = puts (ap (map pl) f) w.placed;
        valued = puts (ap (map va) f) w.valued;
        grads = appends-row to coords (gr i) (ap (flat gr) f) lg refl w.grads;
        slips = appends-row to coords (sl i) (ap (flat sl) f) ls refl w.slips;
      })

  -- an index that does not pass
  pub listing_skip : i < n → p i ≡ false → Listing pl va gr sl p n coords at before now to (i + 1)
  listing_skip h e =
      let f = filter-no p n i h e in
      record { placed = goes_on (ap (map pl) f) w.placed; valued = goes_on (ap (map va) f) w.valued; grads = goes_on (ap (flat gr) f) w.grads; slips = goes_on (ap (flat sl) f) w.slips }

  pub listing_end : n ≤ i → Put coords (map pl (filter_in p n 0)) (map va (filter_in p n 0)) (flat gr (filter_in p n 0)) (flat sl (filter_in p n 0)) at to before now
  unfolding flat
  listing_end h =
      let f = filter-done p n i h in
      record {
        end = ends-count (ap (map pl) f) w.placed;
        placed = ends (ap (map pl) f) w.placed;
        valued = ends (ap (map va) f) w.valued;
        grads = ends (ap (flat gr) f) w.grads;
        slips = ends (ap (flat sl) f) w.slips;
      }
