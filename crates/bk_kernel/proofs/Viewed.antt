-- What is known of a formula where a view of it answers something.
use Rattle.std.proofs.Common.{◌≡◌, ℕ, List, [], ◌∷◌, map, refl, sym, ◌∙◌, ap, arith, Bool, true, false, nat_eq}
use Rattle.std.proofs.lemmas.Bool.Decides.{nat_tests}
use Rattle.std.specs.Prelude.{Some}
use Rattle.bk_val.specs.ValueType.{ValueType}
use Rattle.bk_form.specs.Table.{Table}
use Rattle.bk_form.specs.Formula.{Formula, unary, binary, for_all, for_some}
use Rattle.bk_form.specs.Codes.OperatorCodes.{unary_code, unary_back, unary_back-code, binary_code, binary_back, binary_back-code}
use Rattle.bk_form.specs.Role.{Role, gives, ranges_over, predicate, role}
use Rattle.bk_form.specs.declared.operator.UnOp.{UnOp}
use Rattle.bk_form.specs.declared.operator.BinOp.{BinOp}
use Rattle.bk_form.proofs.Members.{and-both}
use Rattle.bk_form.proofs.Roles.{same_type-then}
use Rattle.bk_arith.proofs.Options.{some-same}
use Rattle.bk_bind.specs.Laws.{TermsGive}
use Rattle.bk_kernel.specs.Branches.{sides, operand, universal, existential, when}
use Rattle.bk_kernel.specs.Naming.{gives_type, give_each}
use Rattle.bk_kernel.specs.Rewriting.{same_role}
use Rattle.bk_form.specs.Each.{Each}

pub when-then : {A : Type 0} (b : Bool) (x y : A) → when b x ≡ Some y → (b ≡ true) × (x ≡ y)
when-then true x y h = (refl, some-same x y h)
when-then false x y h = absurd (cc)

nat_eq-same : (m n : ℕ) → nat_eq m n ≡ true → m ≡ n
nat_eq-same m n h = grind (arith, nat_tests)

pub sides-then : (o : BinOp) (f : Formula) (x : Formula × Formula) → sides o f ≡ Some x → f ≡ binary o x.0 x.1
sides-then o (binary p a b) x h =
    let k = when-then (nat_eq (binary_code p) (binary_code o)) (a, b) x h in
    let same : p ≡ o = sym (binary_back-code p) ∙ ap binary_back (nat_eq-same (binary_code p) (binary_code o) k.0) ∙ binary_back-code o in
    λ i. binary (same i) ((k.1 i).0) ((k.1 i).1)
sides-then o _ x h = absurd (cc)

pub operand-then : (o : UnOp) (f p : Formula) → operand o f ≡ Some p → f ≡ unary o p
operand-then o (unary q a) p h =
    let k = when-then (nat_eq (unary_code q) (unary_code o)) a p h in
    let same : q ≡ o = sym (unary_back-code q) ∙ ap unary_back (nat_eq-same (unary_code q) (unary_code o) k.0) ∙ unary_back-code o in
    λ i. unary (same i) (k.1 i)
operand-then o _ p h = absurd (cc)

pub universal-then : (f : Formula) (q : List ValueType × Formula) → universal f ≡ Some q → f ≡ for_all q.0 q.1
universal-then (for_all ts p) q h = let k = some-same (ts, p) q h in λ i. for_all ((k i).0) ((k i).1)
universal-then _ q h = absurd (cc)

pub existential-then : (f : Formula) (q : List ValueType × Formula) → existential f ≡ Some q → f ≡ for_some q.0 q.1
existential-then (for_some ts p) q h = let k = some-same (ts, p) q h in λ i. for_some ((k i).0) ((k i).1)
existential-then _ q h = absurd (cc)

pub gives_type-then : (r : Role) (t : ValueType) → gives_type r t ≡ true → r ≡ gives t
gives_type-then (gives u) t h = ap gives (same_type-then u t h)
gives_type-then _ t h = absurd (cc)

pub same_role-then : (r s : Role) → same_role r s ≡ true → r ≡ s
same_role-then (gives t) (gives u) h = ap gives (same_type-then t u h)
same_role-then (ranges_over t) (ranges_over u) h = ap ranges_over (same_type-then t u h)
same_role-then predicate predicate h = refl
same_role-then _ _ h = absurd (cc)

pub give_each-then : (table : Table) (ts : List ValueType) (fs : List Formula) → give_each table ts fs ≡ true → TermsGive table ts fs
give_each-then table [] [] h = tt
give_each-then table [] (f ∷ fs) h = absurd (cc)
give_each-then table (t ∷ ts) [] h = absurd (cc)
give_each-then table (t ∷ ts) (f ∷ fs) h =
    let k = and-both (gives_type (role table [] f) t) (give_each table ts fs) h in
    (gives_type-then (role table [] f) t k.0, give_each-then table ts fs k.1)

-- ---- facts of each item
pub each-map : {A B : Type 0} (P : B → Type 0) (Q : A → Type 0) (f : A → B) (xs : List A) → ((x : A) → P (f x) → Q x) → Each P (map f xs) → Each Q xs
each-map P Q f [] g h = tt
each-map P Q f (x ∷ xs) g h = (g x h.0, each-map P Q f xs g h.1)
