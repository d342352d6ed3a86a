-- One row's entries copied to the front of an array. Assumes nothing.
use Prim.Native.Nat.{ℕ, ◌+◌, ◌*◌, ◌<◌, ◌≤◌}
use native.Mathlib.Omega.{arith}
use native.Mathlib.Numerals.{add-one}
use mathlib.Core.Path.{◌≡◌, refl, sym, ap, ◌∙◌}
use mathlib.Core.Bool.{true, false, ◌&&◌}
use mathlib.Core.List.{List, [], ◌∷◌}
use lib.Dec.{leb, ltb}
use lib.Ieee.{Float, nan}
use lib.ListN.{length, get_or, set, take, drop, replicate, length-drop}
use lib.Seq.{sets, take-suc, get_or-drop, length-take-le}
use borrow.Author.Tests.{leb-true}
use Rattle.laws.specs.Fill.{filled}
use Rattle.laws.proofs.Choice.{both, cond_yes, cond_no}
use Rattle.laws.proofs.Fill.{length-filled}
use Rattle.laws.proofs.Writing.{sets-append}
use Rattle.ieee.specs.Consts.{zero_f}
use Rattle.bodies.specs.declared.Problem.TheVariants.{NoSuchThing}
use Rattle.governing.specs.Governing.{row_there, row_entries}
use Rattle.std.proofs.Common.{Ok, Err}

-- ---- Of the c entries from `at` on the first k are copied.
pub record Copied (entries : List Float) (c at : ℕ) (entry : List Float) (k : ℕ) : Type 0 where
  pub few : c ≤ 16
  pub room : at + c ≤ length entries
  pub held : entry ≡ filled 16 zero_f (take k (drop at entries))

-- a row that is there
pub row_room : (entries c n i : ℕ) → row_there entries c n i ≡ true → (c ≤ 16) × (i * c + c ≤ entries)
row_room entries c n i e =
    let a = both (leb c 16) (ltb i n && leb (i * c + c) entries) e in
    let b = both (ltb i n) (leb (i * c + c) entries) a.1 in
    (leb-true c 16 a.0, leb-true (i * c + c) entries b.1)

pub copied_start : (entries : List Float) (c n i : ℕ) → row_there (length entries) c n i ≡ true → Copied entries c (i * c) (replicate 16 zero_f) 0
copied_start entries c n i e =
    let r = row_room (length entries) c n i e in
    record { few = r.0; room = r.1; held = refl }

module _ {entries : List Float} {c at : ℕ} {entry : List Float} {k : ℕ} (w : Copied entries c at entry k) where
  pub copied_long : length entry ≡ 16
  copied_long = ap length w.held ∙ length-filled 16 zero_f (take k (drop at entries))

  pub copied_more : k < c → Copied entries c at (set entry k (get_or entries (at + k) nan)) (k + 1)
  copied_more h = record { few = w.few; room = w.room; held = more }
    where
      l : List Float
      l = drop at entries

      below : k < length l
      below = let e = length-drop at entries in let r = w.room in omega (arith, e, r, h)

      taken : k ≡ 0 + length (take k l)
      taken = let b = below in let e = length-take-le k l (omega (arith, b)) in omega (arith, e)

      more : set entry k (get_or entries (at + k) nan) ≡ filled 16 zero_f (take (k + 1) l)
      more =
          ap (λ (m : List Float). set m k (get_or entries (at + k) nan)) w.held
          ∙ ap (λ (x : Float). set (filled 16 zero_f (take k l)) k x) (sym (get_or-drop at entries k nan))
          ∙ ap (λ (j : ℕ). sets (filled 16 zero_f (take k l)) j (get_or l k nan ∷ [])) taken
          ∙ sym (sets-append (take k l) (get_or l k nan ∷ []) (replicate 16 zero_f) 0)
          ∙ ap (filled 16 zero_f) (sym (take-suc l k nan below))
          ∙ ap (λ (j : ℕ). filled 16 zero_f (take j l)) (sym (add-one k))

  pub copied_ends : k ≡ c → entry ≡ filled 16 zero_f (take c (drop at entries))
  copied_ends e = w.held ∙ ap (λ (j : ℕ). filled 16 zero_f (take j (drop at entries))) e

-- ---- the answer
module _ (entries : List Float) (c n i : ℕ) where
  pub entries_there : row_there (length entries) c n i ≡ true → row_entries entries c n i ≡ Ok (record { count = c; entry = filled 16 zero_f (take c (drop (i * c) entries)) })
  unfolding row_entries
  entries_there e = cond_yes _ _ e

  pub no_row : row_there (length entries) c n i ≡ false → row_entries entries c n i ≡ Err NoSuchThing
  unfolding row_entries
  no_row e = cond_no _ _ e
