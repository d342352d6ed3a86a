-- The rows of all pairs, one pair behind the other, in the lent arrays. Assumes nothing.
use Prim.Native.Nat.{ℕ, suc, ◌+◌, ◌*◌, ◌-◌, ◌<◌, ◌≤◌}
use native.Mathlib.Omega.{arith}
use native.Mathlib.Nat.{sub-zero, add-mul, suc-mul, zero-mul, mul-le-mul}
use mathlib.Core.Path.{◌≡◌, sym, ap, subst₂, ◌∙◌}
use mathlib.Core.List.{List, [], ◌∷◌, ◌++◌, map, map-append}
use lib.Ieee.{Float}
use lib.ListN.{length, length-map, length-append}
use lib.Seq.{sets}
use Rattle.mechanism.specs.Rows.{RowLists, place_row, value_row}
use Rattle.laws.specs.Lists.{flat, list_in}
use Rattle.laws.specs.Loops.{Writing}
use Rattle.laws.proofs.Lists.{list_turn, list_done}
use Rattle.laws.proofs.Sums.{sum_more}
use Rattle.laws.proofs.Writing.{starts, appends, ends, ends-count}
use Rattle.mechanism.specs.Description.{sum_in}
use Rattle.mechanism.specs.declared.rows.Row.{Row}
use Rattle.pair_rows.specs.PairRows.{Put, Room}

-- lists of c each
pub flat-long : {A B : Type 0} (f : A → List B) (c : ℕ) → ((x : A) → length (f x) ≡ c) → (l : List A) → length (flat f l) ≡ length l * c
unfolding flat
flat-long f c h [] = sym (zero-mul c)
flat-long f c h (x ∷ l) =
    let a = length-append (f x) (flat f l) in
    let r = flat-long f c h l in
    let e = h x in
    let s : suc (length l) * c ≡ length l * c + c = suc-mul (length l) c in
    omega (arith, a, r, e, s)

-- ---- A loop over n pairs, with the rows, gradients and slips of each and its bound: those of the first i are written, and `at` is the next row.
pub record AllPairs (rows : ℕ → List Row) (gs ss : ℕ → List Float) (bound : ℕ → ℕ) (n coords : ℕ)
    (before now : RowLists) (at i : ℕ) : Type 0 where
  pub upto : at ≤ sum_in bound i 0
  pub placed : Writing before.places 0 (map place_row (flat rows (list_in (λ j. j) n 0))) now.places at (map place_row (flat rows (list_in (λ j. j) (n - i) i)))
  pub valued : Writing before.values 0 (map value_row (flat rows (list_in (λ j. j) n 0))) now.values at (map value_row (flat rows (list_in (λ j. j) (n - i) i)))
  pub grads : Writing before.grad (0 * coords) (flat gs (list_in (λ j. j) n 0)) now.grad (at * coords) (flat gs (list_in (λ j. j) (n - i) i))
  pub slips : Writing before.slip (0 * coords) (flat ss (list_in (λ j. j) n 0)) now.slip (at * coords) (flat ss (list_in (λ j. j) (n - i) i))

pub pairs_start : (rows : ℕ → List Row) (gs ss : ℕ → List Float) (bound : ℕ → ℕ) (n coords : ℕ) (l : RowLists) → AllPairs rows gs ss bound n coords l l 0 0
pairs_start rows gs ss bound n coords l =
    let e : list_in (λ j. j) (n - 0) 0 ≡ list_in (λ j. j) n 0 = ap (λ (k : ℕ). list_in (λ j. j) k 0) (sub-zero n) in
    record {
      upto = omega arith;
      placed = starts (ap (λ (k : List ℕ). map place_row (flat rows k)) e);
      valued = starts (ap (λ (k : List ℕ). map value_row (flat rows k)) e);
      grads = starts (ap (flat gs) e);
      slips = starts (ap (flat ss) e);
    }

-- a part more, of which it is known what was written and where it ends
appends-at : {A : Type 0} {out₀ : List A} {at₀ : ℕ} {all out : List A} {at : ℕ} {rest : List A} (xs : List A) {rest' out' : List A} {at' : ℕ}
    → rest ≡ xs ++ rest' → out' ≡ sets out at xs → at + length xs ≡ at' → Writing out₀ at₀ all out at rest → Writing out₀ at₀ all out' at' rest'
appends-at {A} {out₀} {at₀} {all} xs {rest'} e o m w = subst₂ (λ (x : List A) (k : ℕ). Writing out₀ at₀ all x k rest') (sym o) m (appends xs e w)

module _ {rows : ℕ → List Row} {gs ss : ℕ → List Float} {bound : ℕ → ℕ} {n coords : ℕ} {before now : RowLists} {at i : ℕ}
    (w : AllPairs rows gs ss bound n coords before now at i) where
  -- room for k rows of the next pair, where k is within its bound
  pub pairs-room : (all k : ℕ) → Room coords 0 all before → sum_in bound i 0 + bound i ≤ all → k ≤ bound i → Room coords at k now
  pairs-room all k r s h =
      let u = w.upto in
      let x : at + k ≤ 0 + all = omega (arith, u, s, h) in
      let m : (at + k) * coords ≤ (0 + all) * coords = mul-le-mul x (let z : coords ≤ coords = omega arith in z) in
      let a = w.placed.long in
      let b = w.valued.long in
      let c = w.grads.long in
      let d = w.slips.long in
      let ra = r.places_room in
      let rb = r.values_room in
      let rc = r.grad_room in
      let rd = r.slip_room in
      record { places_room = omega (arith, x, a, ra); values_room = omega (arith, x, b, rb); grad_room = omega (arith, m, c, rc); slip_room = omega (arith, m, d, rd) }

  pub pairs-more : {next : RowLists} {r : ℕ} → i < n → length (rows i) ≤ bound i → length (gs i) ≡ length (rows i) * coords → length (ss i) ≡ length (rows i) * coords
      → Put coords (map place_row (rows i)) (map value_row (rows i)) (gs i) (ss i) at r now next
      → AllPairs rows gs ss bound n coords before next r (i + 1)
  unfolding flat
  pairs-more {r = r} h few lg ls p =
      let t : list_in (λ j. j) (n - i) i ≡ i ∷ list_in (λ j. j) (n - (i + 1)) (i + 1) = list_turn (λ j. j) n i h in
      let rest = list_in (λ j. j) (n - (i + 1)) (i + 1) in
      let e = p.end in
      let lp = length-map (rows i) place_row in
      let lv = length-map (rows i) value_row in
      let u = w.upto in
      let s = sum_more bound i in
      let z : r ≡ at + length (rows i) = omega (arith, e, lp) in
      let m : r * coords ≡ at * coords + length (rows i) * coords = ap (λ (k : ℕ). k * coords) z ∙ add-mul at (length (rows i)) coords in
      record {
        upto = omega (arith, u, s, e, lp, few);
        placed =
            appends-at (map place_row (rows i)) (ap (λ (l : List ℕ). map place_row (flat rows l)) t ∙ map-append place_row (rows i) (flat rows rest))
            p.placed (sym e) w.placed;
        valued =
            appends-at (map value_row (rows i)) (ap (λ (l : List ℕ). map value_row (flat rows l)) t ∙ map-append value_row (rows i) (flat rows rest))
            p.valued (omega (arith, e, lp, lv)) w.valued;
        grads = appends-at (gs i) (ap (flat gs) t) p.grads (omega (arith, m, lg)) w.grads;
        slips = appends-at (ss i) (ap (flat ss) t) p.slips (omega (arith, m, ls)) w.slips;
      }

  pub pairs_end : n ≤ i
      → Put coords (map place_row (flat rows (list_in (λ j. j) n 0))) (map value_row (flat rows (list_in (λ j. j) n 0)))
      (flat gs (list_in (λ j. j) n 0)) (flat ss (list_in (λ j. j) n 0)) 0 at before now
  unfolding flat
  pairs_end h =
      let f = list_done (λ j. j) n i h in
      record {
        end = ends-count (ap (λ (l : List ℕ). map place_row (flat rows l)) f) w.placed;
        placed = ends (ap (λ (l : List ℕ). map place_row (flat rows l)) f) w.placed;
        valued = ends (ap (λ (l : List ℕ). map value_row (flat rows l)) f) w.valued;
        grads = ends (ap (flat gs) f) w.grads;
        slips = ends (ap (flat ss) f) w.slips;
      }
