-- The bodies of a description are the J lines' bodies, in order. Assumes nothing.
use Prim.Native.Nat.{ℕ, ◌+◌}
use native.Mathlib.Numerals.{add-one}
use native.Mathlib.Omega.{arith}
use mathlib.Core.Path.{◌≡◌, refl, ap, ◌∙◌}
use mathlib.Core.List.{List, [], ◌∷◌}
use lib.ListN.{length, set, replicate}
use lib.Seq.{sets}
use Rattle.bodies.specs.declared.Body.{Body}
use Rattle.text.specs.Lists.{fold_of}
use Rattle.text.specs.declared.records.Record.{Record}
use Rattle.text.specs.declared.records.Record.TheVariants.{Coords, Joined, Drawn, Edge, Paired, OnA, OnB, Margin, Turned, Malformed}
use Rattle.sheet.specs.declared.limits.Tally.{Tally}
use Rattle.sheet.specs.declared.draft.Draft.{Draft}
use Rattle.sheet.specs.Limits.{no_tally, counted}
use Rattle.sheet.specs.Draft.{no_body, no_draft, put}
use Rattle.sheet.specs.Read.{drafted}

-- the bodies of the J lines
abbrev bodies_of : List Record → List Body
bodies_of [] = []
bodies_of (Coords n ∷ rs) = bodies_of rs
bodies_of (Joined b ∷ rs) = b ∷ bodies_of rs
bodies_of (Drawn b r s ∷ rs) = bodies_of rs
bodies_of (Edge g ∷ rs) = bodies_of rs
bodies_of (Paired g ∷ rs) = bodies_of rs
bodies_of (OnA x ∷ rs) = bodies_of rs
bodies_of (OnB x ∷ rs) = bodies_of rs
bodies_of (Margin m ∷ rs) = bodies_of rs
bodies_of (Turned e ∷ rs) = bodies_of rs
bodies_of (Malformed ∷ rs) = bodies_of rs

stored : (rs : List Record) (t : Tally) (d : Draft) → (drafted t d rs).body ≡ sets d.body t.bodies (bodies_of rs)
unfolding drafted put counted
stored [] t d = refl
stored (Coords n ∷ rs) t d = stored rs (counted t (Coords n)) (put t d (Coords n))
stored (Joined b ∷ rs) t d =
    stored rs (counted t (Joined b)) (put t d (Joined b))
    ∙ ap (λ (k : ℕ). sets (set d.body t.bodies b) k (bodies_of rs)) (add-one t.bodies)
stored (Drawn b r s ∷ rs) t d = stored rs (counted t (Drawn b r s)) (put t d (Drawn b r s))
stored (Edge g ∷ rs) t d = stored rs (counted t (Edge g)) (put t d (Edge g))
stored (Paired g ∷ rs) t d = stored rs (counted t (Paired g)) (put t d (Paired g))
stored (OnA x ∷ rs) t d = stored rs (counted t (OnA x)) (put t d (OnA x))
stored (OnB x ∷ rs) t d = stored rs (counted t (OnB x)) (put t d (OnB x))
stored (Margin m ∷ rs) t d = stored rs (counted t (Margin m)) (put t d (Margin m))
stored (Turned e ∷ rs) t d = stored rs (counted t (Turned e)) (put t d (Turned e))
stored (Malformed ∷ rs) t d = stored rs (counted t Malformed) (put t d Malformed)

numbered : (rs : List Record) (t : Tally) → (fold_of counted t rs).bodies ≡ t.bodies + length (bodies_of rs)
unfolding fold_of counted
numbered [] t = omega arith
numbered (Coords n ∷ rs) t = numbered rs (counted t (Coords n))
numbered (Joined b ∷ rs) t = omega (arith, numbered rs (counted t (Joined b)))
numbered (Drawn b r s ∷ rs) t = numbered rs (counted t (Drawn b r s))
numbered (Edge g ∷ rs) t = numbered rs (counted t (Edge g))
numbered (Paired g ∷ rs) t = numbered rs (counted t (Paired g))
numbered (OnA x ∷ rs) t = numbered rs (counted t (OnA x))
numbered (OnB x ∷ rs) t = numbered rs (counted t (OnB x))
numbered (Margin m ∷ rs) t = numbered rs (counted t (Margin m))
numbered (Turned e ∷ rs) t = numbered rs (counted t (Turned e))
numbered (Malformed ∷ rs) t = numbered rs (counted t Malformed)

pub bodies-are : (rs : List Record)
    → ((drafted no_tally no_draft rs).body ≡ sets (replicate 15 no_body) 0 (bodies_of rs)) × ((fold_of counted no_tally rs).bodies ≡ length (bodies_of rs))
unfolding no_draft
bodies-are rs = (stored rs no_tally no_draft, omega (arith, numbered rs no_tally))
