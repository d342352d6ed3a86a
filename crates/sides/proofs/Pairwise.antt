-- The features of pair after pair, written to an array. Assumes nothing.
use Prim.Native.Nat.{ℕ, ◌+◌, ◌<◌, ◌≤◌}
use native.Mathlib.Omega.{arith}
use mathlib.Core.Path.{◌≡◌, refl, sym, ap, subst, ◌∙◌}
use mathlib.Core.List.{List, ◌∷◌, map}
use lib.ListN.{length, take, drop, replicate}
use lib.Seq.{get_or-take, length-take-le}
use Rattle.laws.specs.Loops.{Writing}
use Rattle.laws.proofs.Fill.{map-drop}
use Rattle.laws.proofs.Writing.{starts, ends}
use Rattle.mechanism.specs.Description.{pair_at, no_pair}
use Rattle.mechanism.specs.declared.Outlines.{Outlines}
use Rattle.mechanism.specs.declared.Pairs.{Pairs}
use Rattle.mechanism.specs.declared.Parts.{Parts}
use Rattle.silhouette.proofs.Walks.{up_done}
use Rattle.sides.specs.Contacts.{pair_features, no_pair_features, all_contacts}
use Rattle.sides.specs.declared.contacts.PairFeatures.{PairFeatures}
use Rattle.sides.specs.declared.contacts.Contacts.{Contacts}

-- the features of the pairs from i on
abbrev pub pairs_from : Parts → Outlines → Pairs → ℕ → List PairFeatures
pairs_from ps o pairs i = map (pair_features ps o) (drop i (take pairs.count pairs.pair))

-- an array that is being written with them
abbrev pub PairsWritten : Parts → Outlines → Pairs → List PairFeatures → ℕ → Type 0
PairsWritten ps o pairs all i = Writing (replicate 16 no_pair_features) 0 (map (pair_features ps o) (take pairs.count pairs.pair)) all i (pairs_from ps o pairs i)

module _ (ps : Parts) (o : Outlines) (pairs : Pairs) where
  pub pairs_start : {x : PairFeatures} → x ≡ no_pair_features → PairsWritten ps o pairs (replicate 16 x) 0
  pairs_start e = subst (λ (y : PairFeatures). PairsWritten ps o pairs (replicate 16 y) 0) (sym e) (starts refl)

  pub pairs-turn : (i : ℕ) {f : PairFeatures} → pairs.count ≤ length pairs.pair → i < pairs.count → f ≡ pair_features ps o (pair_at pairs i)
      → pairs_from ps o pairs i ≡ f ∷ pairs_from ps o pairs (i + 1)
  pairs-turn i l h e =
      let k : length (take pairs.count pairs.pair) ≡ pairs.count = length-take-le pairs.count pairs.pair l in
      map-drop (pair_features ps o) (take pairs.count pairs.pair) i no_pair (omega arith)
      ∙ ap (λ (x : PairFeatures). x ∷ pairs_from ps o pairs (i + 1)) (ap (pair_features ps o) (get_or-take pairs.count pairs.pair i no_pair h) ∙ sym e)

  pub pairs_end : (i : ℕ) {all : List PairFeatures} → pairs.count ≤ length pairs.pair → pairs.count ≤ i → PairsWritten ps o pairs all i
      → ◌≡◌ {A = Contacts} (record { count = pairs.count; pair = all }) (all_contacts ps o pairs)
  pairs_end i l h w =
      let e = up_done pairs.count i (take pairs.count pairs.pair) (length-take-le pairs.count pairs.pair l) h in
      ap (λ (x : List PairFeatures). record { count = pairs.count; pair = x }) (ends (ap (map (pair_features ps o)) e) w)
