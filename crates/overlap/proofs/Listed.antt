-- The listed parts, each once and in order, are those of the list with its repeats: what stands in them, and they in others, is as deep. Assumes nothing.
use Prim.Native.Nat.{ℕ, zero, suc, ◌<◌, ◌≤◌}
use native.Mathlib.Omega.{arith}
use mathlib.Core.Path.{◌≡◌, refl, sym, ap, subst, ◌∙◌}
use mathlib.Core.Bool.{Bool, true, false, false≢true, not, ◌&&◌, ◌||◌, cond}
use mathlib.Core.Logic.{⊎_elim}
use mathlib.Core.List.Memᴰ
use mathlib.Core.List.{List, [], ◌∷◌, map, Memᴰ}
use lib.Dec.{T, eqb, ltb}
use lib.ListN.{get_or}
use borrow.Author.Tests.{eq-eqb, eqb-true, ltb-true}
use Rattle.laws.specs.Lists.{list_in, foldl, any}
use Rattle.laws.specs.Loops.{any_in, filter_in, keep}
use Rattle.laws.proofs.Choice.{no_and, neither, not_yes, not_no, holds, is_true, or_cases, or_l, or_r}
use Rattle.laws.proofs.Finite.{in_filter, of-filter}
use Rattle.laws.proofs.Lists.{foldl-same}
use Rattle.ieee.specs.Consts.{zero_f}
use Rattle.mechanism.specs.Check.{FewParts}
use Rattle.mechanism.specs.Description.{part_at}
use Rattle.mechanism.specs.declared.Outlines.{Outlines}
use Rattle.mechanism.specs.declared.Parts.{Parts}
use Rattle.bodies.specs.declared.pose.Pose.{Pose}
use Rattle.silhouette.specs.Silhouette.{in_the_section}
use Rattle.material.specs.Material.{Material, deepest_of}
use Rattle.material.proofs.Sets.{Within, Same, any-sets, deepest_sets}
use Rattle.drawing.specs.Drawing.{is_cut, is_sampled, is_read_cut, polygon_of, chosen_as, chosen_material, what_is}
use Rattle.drawing.specs.Samples.{mouths_of, part_samples}
use Rattle.drawing.specs.declared.Chosen.{Chosen}
use Rattle.overlap.specs.Overlap.{sunk_of, owners_of, is_in, cut_of_any, list_material, all_parts, owner_at, as_owners}
use Rattle.overlap.proofs.Flags.{flag_at, filter_same, is-solid, owner-flag}

-- ---- the elements of a list
list_has : (l : List ℕ) (x : ℕ) → Memᴰ x l → T (is_in l x)
unfolding any
list_has [] x i = absurd (Memᴰ.not-nil i)
list_has (y ∷ l) x i = ⊎_elim
    (λ (e : x ≡ y). or_l (eqb y x) (is_in l x) (holds (eq-eqb y x (sym e))))
    (λ (k : Memᴰ x l). or_r (eqb y x) (is_in l x) (list_has l x k))
    (Memᴰ.cases_cons i)

has_list : (l : List ℕ) (x : ℕ) → T (is_in l x) → Memᴰ x l
unfolding any
has_list [] x t = absurd t
has_list (y ∷ l) x t = ⊎_elim
    (λ (u : T (eqb y x)). Memᴰ.head (sym (eqb-true y x (is_true (eqb y x) u))))
    (λ (u : T (is_in l x)). Memᴰ.tail (has_list l x u))
    (or_cases (eqb y x) (is_in l x) t)

none_in : (p : ℕ → Bool) (l : List ℕ) → any p l ≡ false → (x : ℕ) → Memᴰ x l → p x ≡ false
unfolding any
none_in p [] e x i = absurd (Memᴰ.not-nil i)
none_in p (y ∷ l) e x i =
    let n = neither (p y) (any p l) e in
    ⊎_elim (λ (q : x ≡ y). ap p q ∙ n.0) (λ (k : Memᴰ x l). none_in p l n.1 x k) (Memᴰ.cases_cons i)

-- of those that are kept, each was there
kept_in : (s : ℕ → Bool) (l : List ℕ) → Within (keep s l) l
unfolding keep
kept_in s [] x i = i
kept_in s (y ∷ l) x i = go (s y) i (kept_in s l x)
  where
    go : (b : Bool) → Memᴰ x (cond b (y ∷ keep s l) (keep s l)) → (Memᴰ x (keep s l) → Memᴰ x l) → Memᴰ x (y ∷ l)
    go true j f = ⊎_elim (λ (q : x ≡ y). Memᴰ.head q) (λ (k : Memᴰ x (keep s l)). Memᴰ.tail (f k)) (Memᴰ.cases_cons j)
    go false j f = Memᴰ.tail (f j)

-- a number is kept where it is listed and passes
pub in_kept : (s : ℕ → Bool) (l : List ℕ) (i : ℕ) → is_in (keep s l) i ≡ (is_in l i && s i)
unfolding keep any
in_kept s [] i = refl
in_kept s (y ∷ l) i = go (s y) refl (eqb y i) refl (in_kept s l i)
  where
    go : (b : Bool) → s y ≡ b → (c : Bool) → eqb y i ≡ c → any (λ j. eqb j i) (keep s l) ≡ (any (λ j. eqb j i) l && s i)
        → any (λ j. eqb j i) (cond b (y ∷ keep s l) (keep s l)) ≡ ((eqb y i || any (λ j. eqb j i) l) && s i)
    go true e true f h = ap (λ (c : Bool). c || any (λ j. eqb j i) (keep s l)) f ∙ sym (ap (λ (c : Bool). (c || any (λ j. eqb j i) l) && s i) f ∙ ap s (sym (eqb-true y i f)) ∙ e)
    go true e false f h = ap (λ (c : Bool). c || any (λ j. eqb j i) (keep s l)) f ∙ h ∙ sym (ap (λ (c : Bool). (c || any (λ j. eqb j i) l) && s i) f)
    go false e true f h =
        let n : s i ≡ false = ap s (sym (eqb-true y i f)) ∙ e in
        h ∙ no_and (any (λ j. eqb j i) l) n ∙ sym (ap (λ (c : Bool). (c || any (λ j. eqb j i) l) && s i) f ∙ n)
    go false e false f h = h ∙ sym (ap (λ (c : Bool). (c || any (λ j. eqb j i) l) && s i) f)

-- ---- the numbers of a list below n, each once and in order
pub once : (l : List ℕ) (n : ℕ) → ((x : ℕ) → Memᴰ x l → x < n) → Same (filter_in (is_in l) n 0) l
once l n h = record {
  there = λ x i. has_list l x (of-filter (is_in l) n 0 x i).2;
  back = λ x i. let k = h x i in in_filter (is_in l) n 0 x (omega arith) (omega (arith, k)) (list_has l x i);
}

-- one that is listed and passes
any-filter : (p g : ℕ → Bool) (k s : ℕ) → any_in (λ j. p j && g j) k s ≡ any g (filter_in p k s)
unfolding any_in filter_in any
any-filter p g zero s = refl
any-filter p g (suc k) s = go (p s) (any-filter p g k (suc s))
  where
    go : (b : Bool) → any_in (λ j. p j && g j) k (suc s) ≡ any g (filter_in p k (suc s))
        → ((b && g s) || any_in (λ j. p j && g j) k (suc s)) ≡ any g (cond b (s ∷ filter_in p k (suc s)) (filter_in p k (suc s)))
    go true e = ap (λ (c : Bool). g s || c) e
    go false e = e

-- ---- a mapped list
module _ {A B : Type 0} (f : A → B) where
  map-in : (m : List A) (x : A) → Memᴰ x m → Memᴰ (f x) (map f m)
  map-in [] x i = absurd (Memᴰ.not-nil i)
  map-in (z ∷ m) x i = ⊎_elim (λ (e : x ≡ z). Memᴰ.head (ap f e)) (λ (k : Memᴰ x m). Memᴰ.tail (map-in m x k)) (Memᴰ.cases_cons i)

  map-within : (l m : List A) → Within l m → Within (map f l) (map f m)
  map-within [] m h y i = absurd (Memᴰ.not-nil i)
  map-within (x ∷ l) m h y i = ⊎_elim
      (λ (e : y ≡ f x). subst (λ (z : B). Memᴰ z (map f m)) (sym e) (map-in m x (h x (Memᴰ.head refl))))
      (λ (k : Memᴰ y (map f l)). map-within l m (λ z j. h z (Memᴰ.tail j)) y k)
      (Memᴰ.cases_cons i)

  map_same : (l m : List A) → Same l m → Same (map f l) (map f m)
  map_same l m s = record { there = map-within l m s.there; back = map-within m l s.back }

same_self : {A : Type 0} {l m : List A} → l ≡ m → Same l m
same_self {A} {l} {m} e = record { there = λ x i. subst (Memᴰ x) e i; back = λ x i. subst (Memᴰ x) (sym e) i }

-- ---- a part is a solid, a cut or neither
is-a-cut : (s t : Bool) → (s ≡ true → t ≡ false) → eqb (what_is s t) 2 ≡ t
is-a-cut true t e = sym (e refl)
is-a-cut false true e = refl
is-a-cut false false e = refl

-- a part that is sampled is no cut
no_cut : (in? c s b : Bool) → (in? && (not c && s)) ≡ true → ((c && s) && b) ≡ false
no_cut true true s b e = absurd (false≢true e)
no_cut true false s b e = refl
no_cut false c s b e = absurd (false≢true e)

-- ---- the material of the owners of a list
module _ (ps : Parts) (w : Chosen) where
  abbrev pub on_body : ℕ → Bool
  on_body i = any_in (λ j. owner_at w j && eqb (part_at ps j).body (part_at ps i).body) ps.count 0

  abbrev pub choice_of : ℕ → ℕ
  choice_of i = what_is (owner_at w i) (is_read_cut (part_at ps i) && on_body i)

  abbrev pub chosen_of : Chosen
  chosen_of = record { what = list_in choice_of 32 0 }

module _ (ps : Parts) (few : FewParts ps) (l : List ℕ) (named : all_parts ps l ≡ true) where
  abbrev owner : ℕ → Bool
  owner i = is_in l i && is_sampled (part_at ps i)

  abbrev owners : Chosen
  owners = as_owners owner

  abbrev kept : List ℕ
  kept = owners_of ps l

  few-count : ps.count ≤ 32
  few-count = few.count

  owner-is : (i : ℕ) → i < 32 → owner_at owners i ≡ is_in kept i
  owner-is i h = owner-flag owner i h ∙ sym (in_kept (λ j. is_sampled (part_at ps j)) l i)

  kept-below : (x : ℕ) → Memᴰ x kept → x < ps.count
  kept-below x i = ltb-true x ps.count
      (not_no (ltb x ps.count) (none_in (λ j. not (ltb j ps.count)) l (not_yes _ named) x (kept_in (λ j. is_sampled (part_at ps j)) l x i)))

  kept-once : Same (filter_in (is_in kept) ps.count 0) kept
  kept-once = once kept ps.count kept-below

  -- the parts that own samples
  pub owners-are : filter_in (owner_at owners) ps.count 0 ≡ filter_in (is_in kept) ps.count 0
  owners-are = let n = few-count in filter_same (owner_at owners) (is_in kept) ps.count 0 (λ i h. owner-is i (omega (arith, n, h)))

  on_body_lem : (i : ℕ) → on_body ps owners i ≡ any (λ j. eqb (part_at ps j).body (part_at ps i).body) kept
  on_body_lem i =
      any-filter (owner_at owners) (λ j. eqb (part_at ps j).body (part_at ps i).body) ps.count 0
      ∙ ap (any (λ j. eqb (part_at ps j).body (part_at ps i).body)) owners-are
      ∙ any-sets (λ j. eqb (part_at ps j).body (part_at ps i).body) (filter_in (is_in kept) ps.count 0) kept kept-once

  choice_is : (i : ℕ) → i < 32 → get_or (chosen_of ps owners).what i 0 ≡ choice_of ps owners i
  choice_is i h = flag_at (choice_of ps owners) 0 i h

  solid-is : (i : ℕ) → i < 32 → chosen_as (chosen_of ps owners) 1 i ≡ is_in kept i
  solid-is i h =
      ap (λ (x : ℕ). eqb x 1) (choice_is i h) ∙ is-solid (owner_at owners i) (is_read_cut (part_at ps i) && on_body ps owners i) ∙ owner-is i h

  cut_is : (i : ℕ) → i < 32 → chosen_as (chosen_of ps owners) 2 i ≡ cut_of_any ps kept i
  cut_is i h =
      ap (λ (x : ℕ). eqb x 2) (choice_is i h)
      ∙ is-a-cut (owner_at owners i) (is_read_cut (part_at ps i) && on_body ps owners i)
      (λ e. no_cut (is_in l i) (is_cut (part_at ps i).role) (in_the_section (part_at ps i).sweep) (on_body ps owners i) (sym (owner-flag owner i h) ∙ e))
      ∙ ap (λ (b : Bool). is_read_cut (part_at ps i) && b) (on_body_lem i)

  module _ (o : Outlines) (q : Pose) where
    solids-same : Same (chosen_material ps o q (chosen_of ps owners)).solids (list_material ps o q kept).solids
    unfolding chosen_material
    solids-same =
        let n = few-count in
        let e : filter_in (chosen_as (chosen_of ps owners) 1) ps.count 0 ≡ filter_in (is_in kept) ps.count 0 = filter_same (chosen_as (chosen_of ps owners) 1) (is_in kept) ps.count 0
        (λ i h. solid-is i (omega (arith, n, h))) in
        subst (λ (m : List ℕ). Same (map (polygon_of ps o q) m) (map (polygon_of ps o q) kept)) (sym e) (map_same (polygon_of ps o q) (filter_in (is_in kept) ps.count 0) kept kept-once)

    cuts-same : Same (chosen_material ps o q (chosen_of ps owners)).cuts (list_material ps o q kept).cuts
    unfolding chosen_material
    cuts-same =
        let n = few-count in
        same_self (ap (map (polygon_of ps o q)) (filter_same (chosen_as (chosen_of ps owners) 2) (cut_of_any ps kept) ps.count 0 (λ i h. cut_is i (omega (arith, n, h)))))

    -- what stands in the chosen parts stands as deep in the listed ones
    pub sunk_listed : (p : ℕ → Bool) → sunk_of ps o q p (chosen_material ps o q (chosen_of ps owners)) ≡ sunk_of ps o q p (list_material ps o q kept)
    sunk_listed p = foldl-same
        (λ d i. deepest_of (chosen_material ps o q (chosen_of ps owners)) d (part_samples ps o q (mouths_of ps o) i))
        (λ d i. deepest_of (list_material ps o q kept) d (part_samples ps o q (mouths_of ps o) i))
        (λ d i. deepest_sets (chosen_material ps o q (chosen_of ps owners)) (list_material ps o q kept) solids-same cuts-same d (part_samples ps o q (mouths_of ps o) i))
        zero_f (filter_in p ps.count 0)

    -- the owners of this list stand as deep as the listed parts
    pub sunk_owners : (m : Material) → sunk_of ps o q (owner_at owners) m ≡ sunk_of ps o q (is_in kept) m
    sunk_owners m = ap (foldl (λ d i. deepest_of m d (part_samples ps o q (mouths_of ps o) i)) zero_f) owners-are
