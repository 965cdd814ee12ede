-- What is so of each substitution and each term where a phase has found nothing.
use Rattle.std.proofs.Common.{◌≡◌, ℕ, List, [], ◌∷◌, ◌++◌, length, map, refl, Bool, true, false}
use Rattle.std.specs.List.{flat_map, filter}
use Rattle.bk_form.specs.Each.{Each}
use Rattle.bk_raw.specs.Trees.ComponentTree.{RawSet}
use Rattle.bk_raw.proofs.RulesFit.{none-left, none-right, some-fault}
use Rattle.bk_statics.specs.Typings.{Target, unknown, no_variable, variable_target}
use Rattle.bk_phases.specs.Scope.{unless, Written}
use Rattle.bk_phases.specs.Term.{Term}
use Rattle.bk_phases.specs.Statement.{Statement, left_names}
use Rattle.bk_phases.specs.Resolved.{Resolved}
use Rattle.bk_phases.specs.Parts.{statements, terms}
use Rattle.bk_phases.specs.Types.{Types}
use Rattle.bk_phases.specs.Formulas.{untyped_in}
use Rattle.bk_phases.specs.NoType.{without_elements, untyped_symbols, without_type}
use Rattle.bk_phases.specs.Writes.{is_writable, may_write, unwritable, wrong_write, wrong_writes}
use Rattle.bk_phases.specs.Scoping.{IsVariableOf}
use Rattle.bk_phases.specs.Typed.{IsRightWritten}
use Rattle.bk_phases.proofs.Lists.{each-left, each-right}

flat-each : {A B : Type 0} (f : A → List B) (xs : List A) → flat_map f xs ≡ [] → Each (λ x. f x ≡ []) xs
flat-each f [] h = tt
flat-each f (x ∷ xs) h = (none-left (f x) (flat_map f xs) h, flat-each f xs (none-right (f x) (flat_map f xs) h))

each-unflat : {A B : Type 0} (P : B → Type 0) (f : A → List B) (xs : List A) → Each P (flat_map f xs) → Each (λ x. Each P (f x)) xs
each-unflat P f [] h = tt
each-unflat P f (x ∷ xs) h = (each-left P (f x) (flat_map f xs) h, each-unflat P f xs (each-right P (f x) (flat_map f xs) h))

unless-true : (b : Bool) (at : ℕ) → unless b at ≡ [] → b ≡ true
unless-true true at h = refl
unless-true false at h = some-fault at [] h

written-to : (r : Resolved) (v : Target) (at : ℕ) → unless (may_write r v) at ≡ [] → IsVariableOf (is_writable r) v
written-to r (variable_target n) at h = unless-true (is_writable r n) at h
written-to r unknown at h = some-fault at [] h
written-to r no_variable at h = some-fault at [] h

all-written : (r : Resolved) (xs : List Written) → Each (λ (x : Written). unwritable r x ≡ []) xs → Each (λ (x : Written). IsVariableOf (is_writable r) x.target) xs
all-written r [] h = tt
all-written r (x ∷ xs) h = (written-to r x.target x.name.at h.0, all-written r xs h.1)

both-right : (r : Resolved) (ss : List Statement) → Each (λ (s : Statement). Each (λ (x : Written). unwritable r x ≡ []) (left_names s)) ss → Each (λ (s : Statement). wrong_write s ≡ []) ss → Each (IsRightWritten r) ss
both-right r [] h k = tt
both-right r (s ∷ ss) h k = (record { left = all-written r (left_names s) h.0; writes = k.0 }, both-right r ss h.1 k.1)

pub writes-right : (r : Resolved) → wrong_writes r ≡ [] → Each (IsRightWritten r) (statements r)
writes-right r h =
    let ss = statements r in
    let first = none-left (flat_map (unwritable r) (flat_map left_names ss)) (flat_map wrong_write ss) h in
    let second = none-right (flat_map (unwritable r) (flat_map left_names ss)) (flat_map wrong_write ss) h in
    both-right r ss (each-unflat (λ (x : Written). unwritable r x ≡ []) left_names ss (flat-each (unwritable r) (flat_map left_names ss) first)) (flat-each wrong_write ss second)

pub types-right : (types : Types) (r : Resolved) → without_type types r ≡ [] → Each (λ (t : Term). untyped_in types t ≡ []) (terms r)
types-right types r h =
    let sets = map (λ (s : RawSet). s.name.at) (filter without_elements r.component.sets) in
    let symbols = untyped_symbols types.of (length r.above.table.variables) r.symbols in
    let untyped = flat_map (untyped_in types) (terms r) in
    flat-each (untyped_in types) (terms r) (none-right symbols untyped (none-right sets (symbols ++ untyped) h))
