-- The counted elements of an array that holds a list's elements, changed, from its front. Assumes nothing.
use Prim.Native.Nat.{ℕ, ◌≤◌}
use native.Mathlib.Omega.{arith}
use mathlib.Core.Path.{◌≡◌, sym, ap, ◌∙◌}
use mathlib.Core.List.{List, map}
use lib.ListN.{length, take, get_or}
use lib.Seq.{sets}
use Rattle.laws.specs.Lists.{list_in}
use Rattle.laws.proofs.Lists.{list_map, list_length}
use Rattle.laws.proofs.Writing.{sets-taken}

module _ {A B : Type 0} (g : A → B) (l : List A) (d : A) where
  abbrev placed : ℕ → B
  placed i = g (get_or l i d)

  pub placed-taken : (before : List B) {n : ℕ} {after : List B} → n ≡ length l → n ≤ length before → after ≡ sets before 0 (list_in placed n 0) → take n after ≡ map g l
  placed-taken before {n} e h w =
      let m = list_length placed n 0 in
      ap (take n) w ∙ sets-taken (list_in placed n 0) before n m (omega (arith, m, h)) ∙ ap (λ (j : ℕ). list_in placed j 0) e ∙ sym (list_map g l d)
