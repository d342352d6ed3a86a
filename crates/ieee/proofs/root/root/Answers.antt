use mathlib.Core.Path.{◌≡◌, refl, sym, ap, ◌∙◌, subst}
use mathlib.Core.Bool.{true}
use Prim.Native.Nat.{◌^◌, ◌<◌}
use lib.Dec.{T}
use lib.Ieee.Bits.{to_bits-lt}
use lib.Ieee.{Float, binary64, fits, to_bits}
use native.Mathlib.Omega.{arith}
use Rattle.ieee.specs.Root.{root_of, IsRoot}
use Rattle.ieee.proofs.Values.{no_nan, from-pattern, the_nan}
use Rattle.ieee.proofs.Patterns.{nan_root, own_root, zero_root, minus-zero_root, infinity_root, root_nothing}
use Rattle.ieee.proofs.RootLaws.{root_is}
use Rattle.ieee.proofs.root.root.Goals as goal

held : (x : Float) → fits binary64 x ≡ true → T (fits binary64 x)
held x h = subst T (sym h) tt

-- both clauses, from the first
told : (x : Float) → fits binary64 x ≡ true → {r : Float} → r ≡ root_of x → record { value : r ≡ root_of x; is_root : IsRoot x r }
told x h e = record { value = e; is_root = subst (IsRoot x) (sym e) (root_is x (held x h)) }

-- the answer for the pattern is one for the float
of_pattern : (x : Float) → fits binary64 x ≡ true → root_of (lib.Ieee.of_bits binary64 (to_bits binary64 x)) ≡ root_of x
of_pattern x h = ap root_of (sym (from-pattern x _ (held x h) refl))

pub returns-then-x : goal.returns-then-x
returns-then-x c = told c.args.x c.well_formed.0.1 (nan_root c.args.x c.if-x.true)

pub float_to_bits-b : goal.float_to_bits-b
float_to_bits-b c = no_nan c.args.x c.if-x.false

pub returns-then-b-lt9218868437227405312 : goal.returns-then-b-lt9218868437227405312
returns-then-b-lt9218868437227405312 c = told c.args.x c.well_formed.0.1 (c.normal.ensures ∙ of_pattern c.args.x c.well_formed.0.1)

pub returns-then-b-eq9218868437227405312 : goal.returns-then-b-eq9218868437227405312
returns-then-b-eq9218868437227405312 c =
    told c.args.x c.well_formed.0.1 (own_root c.args.x 0x7ff0_0000_0000_0000 (held c.args.x c.well_formed.0.1) c.if-b-eq9218868437227405312.true infinity_root)

pub returns-then-b : goal.returns-then-b
returns-then-b c = told c.args.x c.well_formed.0.1 (own_root c.args.x 0x8000_0000_0000_0000 (held c.args.x c.well_formed.0.1) c.if-b.true minus-zero_root)

pub returns-then-b-ge4503599627370496 : goal.returns-then-b-ge4503599627370496
returns-then-b-ge4503599627370496 c =
    let b = to_bits binary64 c.args.x in
    let h : b < 2 ^ 64 = to_bits-lt binary64 c.args.x (held c.args.x c.well_formed.0.1) in
    told c.args.x c.well_formed.0.1 (the_nan ∙ sym (root_nothing b (omega arith) h c.if-b.false) ∙ of_pattern c.args.x c.well_formed.0.1)

pub returns-then-b-eq0 : goal.returns-then-b-eq0
returns-then-b-eq0 c = told c.args.x c.well_formed.0.1 (own_root c.args.x 0 (held c.args.x c.well_formed.0.1) c.if-b-eq0.true zero_root)

pub returns : goal.returns
returns c = told c.args.x c.well_formed.0.1 (c.subnormal.ensures ∙ of_pattern c.args.x c.well_formed.0.1)
