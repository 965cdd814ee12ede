-- Rules that are found for a goal that reads back in its scope are written as a script that reads back.
use Rattle.std.proofs.Common.{◌≡◌, ◌≢◌, inl, inr, ℕ, zero, suc, ◌+◌, ◌-◌, ◌<◌, ◌≤◌, ◌^◌, ◌⊎◌, true, false, List, [], ◌∷◌, ◌++◌, length, length-append, append_assoc, append-nil, map, refl, ap, sym, ◌∙◌, subst, arith, Option, Some, None, All}
use Rattle.std.specs.Prelude.{slice_get, decimal, unwrap_or}
use Rattle.std.specs.List.{Contains, flat_map, filter_map}
use Rattle.std.specs.Option.{option_map}
use Rattle.std.specs.Fmt.{digits}
use Rattle.bk_val.specs.ValueType.{ValueType, int_type, bool_type, enum_type, pair_type, set_type}
use Rattle.bk_form.specs.Each.{Each}
use Rattle.bk_form.specs.Wider.{IsWider, IsTypedRole}
use Rattle.bk_form.specs.Table.{Table, VariableEntry, variable_type, with_variable, IsWellFormed}
use Rattle.bk_form.specs.Formula.{Formula, variable, element, empty_set, named, unary, binary, for_all, for_some, comprehension, lambda, Formulas, no_formulas, formula_and}
use Rattle.bk_form.specs.Replacement.{count}
use Rattle.bk_form.specs.Role.{Role, gives, ranges_over, predicate, untyped, role}
use Rattle.bk_form.specs.declared.operator.Domain.{Domain}
use Rattle.bk_form.specs.declared.operator.Domain.TheVariants.{Integer as WholeNumbers, Enum}
use Rattle.bk_form.proofs.Members.{and-both}
use Rattle.bk_form.proofs.Widening.{get-wider, widening_roles}
use Rattle.bk_raw.specs.declared.script.NamePart.{NamePart}
use Rattle.bk_raw.specs.Meaning.Names.{Names, sight, seen, found}
use Rattle.bk_raw.specs.Meaning.ScopeReading.{variable_meaning, set_names, scope_names}
use Rattle.bk_kernel.specs.declared.rule.Place.TheVariants.{Goal}
use Rattle.bk_kernel.specs.declared.rule.Rule.{Rule}
use Rattle.bk_kernel.specs.declared.rule.Rule.TheVariants.{Hyp, True, Same, Eval, And, Imp, Fix, Split, OpenSome, Law, TypeOf, Lin}
use Rattle.bk_kernel.specs.Naming.{gives_type, give_each, names_of}
use Rattle.bk_dev.specs.Development.{Development}
use Rattle.bk_auto.specs.NewVariables.{texts_of, AreNew}
use Rattle.bk_auto.specs.Named.{numbers_from, brought_by, brought, IsPart, NamesParts, Brings}
use Rattle.bk_auto.proofs.Ready.{each-append, each-map, each-all}
use Rattle.bk_scripts.specs.LawNames.{law_number}
use Rattle.bk_scripts.specs.Sight.{entry, hiding, no_variable, level_of, operation_of, constants_to, variables_to, parameters_to, lower_sets, outer_scope, parameter_scope}
use Rattle.bk_scripts.specs.Brought.{is_in_scope}
use Rattle.bk_show.specs.Shown.{or_empty, name_of_variable, name_of_set, name_of_element}
use Rattle.bk_show.specs.Binders.{HasSomeType}
use Rattle.bk_show.specs.Readable.{IsPlainName, IsPrintable, SetsAreNamed, AllSetsAreNamed, DomainIsNamed, IsReadable, AreReadable}
use Rattle.bk_show.specs.Stands.{SetStands, TypeStands, TypesStand, DomainStands, Stands, EachStands}
use Rattle.bk_print.specs.Written.{parts_of}
use Rattle.bk_print.specs.Text.{law_name}
use Rattle.bk_print.specs.Readable.{HasSome, IsNumber, ReadsIn, NameReads, RuleReads, names_of_parts, names_brought, with_new, numbered, outside, parameters, names_with, names_of_types, NamePartReads, ScriptReads}
use Rattle.bk_print.specs.InScope.{RuleFits, own_names}
use Rattle.bk_print.proofs.ItemsLexed.{letter-number-plain}
use Rattle.bk_print.proofs.PartsRead.{NewReads, given-then, part-reads}
use Rattle.bk_print.proofs.ScopeFound.{scope-append, scope-same, found-past, others-apart, found-new, slice-past, text-more, are-apart, new-at, IsOld, old-apart, variable-known, set-old, element-old, IsEntryOf, entries-known, entries-same, hidden-same, entries-apart}
use Rattle.bk_print.proofs.Certified.{certificate-reads}

-- ---- small things
none-past : (xs : List VariableEntry) (n : ℕ) → slice_get xs n ≡ None → length xs ≤ n
none-past [] n e = omega arith
none-past (x ∷ xs) zero e = absurd (cc)
none-past (x ∷ xs) (suc n) e = let l = none-past xs n e in omega arith

typed-role : (r : Role) → r ≢ untyped → IsTypedRole r
typed-role (gives t) n = tt
typed-role (ranges_over t) n = tt
typed-role predicate n = tt
typed-role untyped n = absurd (n refl)

each-flat : {A B : Type 0} (P : B → Type 0) (Q : A → Type 0) (f : A → List B) → ((x : A) → Q x → Each P (f x)) → (xs : List A) → Each Q xs → Each P (flat_map f xs)
each-flat P Q f g [] h = tt
each-flat P Q f g (x ∷ xs) h = each-append P (f x) (flat_map f xs) (g x h.0) (each-flat P Q f g xs h.1)

both-each : {A : Type 0} (P Q R : A → Type 0) → ((x : A) → P x → Q x → R x) → (xs : List A) → Each P xs → Each Q xs → Each R xs
both-each P Q R f [] h k = tt
both-each P Q R f (x ∷ xs) h k = (f x h.0 k.0, both-each P Q R f xs h.1 k.1)

same-by : (r : Rule) → names_of_parts (parts_of r) ≡ brought_by r
same-by (Eval None) = refl
same-by (Eval (Some place)) = refl
same-by _ = refl

same-brought : (rules : List Rule) → names_brought rules ≡ brought rules
same-brought [] = refl
same-brought (r ∷ rs) = λ i. same-by r i ++ same-brought rs i

law-one : law_number (law_name 101) ≡ Some 101
unfolding digits
law-one = refl

law-five : law_number (law_name 105) ≡ Some 105
unfolding digits
law-five = refl

law-known : (law : ℕ) → (law ≡ 101) ⊎ (law ≡ 105) → law_number (law_name law) ≡ Some law
law-known law (inl e) = ap (λ n. law_number (law_name n)) e ∙ (law-one ∙ ap Some (sym e))
law-known law (inr e) = ap (λ n. law_number (law_name n)) e ∙ (law-five ∙ ap Some (sym e))

-- ---- one script
module _ (dev : Development) (name : List NamePart) (new : List VariableEntry) (fresh : AreNew dev.table new) (well : IsWellFormed dev.table) (wide_well : IsWellFormed (with_new dev.table new)) (room : length (with_new dev.table new).variables < 2 ^ 32) where
  abbrev table : Table
  table = dev.table

  abbrev wide : Table
  wide = with_new dev.table new

  abbrev first : ℕ
  first = length dev.table.variables

  abbrev own : Names
  own = own_names dev name

  abbrev names : Names
  names = names_with dev name new

  abbrev of_sets : Names
  of_sets = set_names 0 dev.table.sets

  wider : IsWider table wide
  wider = record { sets = ([], sym (append-nil dev.table.sets)); variables = (new, refl) }

  -- ---- what is found of names
  abbrev SameType : List ℕ × ℕ → Type 0
  SameType p = variable_type wide p.1 ≡ variable_type table p.1

  outer-same : (k : Option ℕ) → Each SameType (outer_scope table dev k)
  outer-same None = tt
  outer-same (Some k) =
      let xs = constants_to dev k ++ variables_to dev k in
      each-append SameType (hiding (lower_sets dev k)) (filter_map (entry table) xs) (hidden-same table new room (lower_sets dev k)) (entries-same table new (filter_map (entry table) xs) (entries-known table xs))

  parameters-known : (k o : Option ℕ) → Each (IsEntryOf table) (parameter_scope table dev k o)
  parameters-known None o = tt
  parameters-known (Some k) o = entries-known table (parameters_to dev k o)

  own-are : Each (IsEntryOf table) (parameters dev name)
  own-are = parameters-known (level_of dev name) (operation_of dev name)

  types-same : Each SameType (outside dev name ++ parameters dev name)
  types-same = each-append SameType (outside dev name) (parameters dev name) (outer-same (level_of dev name)) (entries-same table new (parameters dev name) own-are)

  behind-own : (t : Table) (ps : List (List ℕ × ℕ)) → scope_names t (outside dev name ++ (parameters dev name ++ ps)) of_sets ≡ scope_names t ps (scope_names t (outside dev name ++ parameters dev name) of_sets)
  behind-own t ps = ap (λ qs. scope_names t qs of_sets) (sym (append_assoc (outside dev name) (parameters dev name) ps)) ∙ scope-append t (outside dev name ++ parameters dev name) ps of_sets

  names-are : names ≡ scope_names wide (numbered first new) own
  names-are = behind-own wide (numbered first new) ∙ ap (scope_names wide (numbered first new)) (scope-same table wide (outside dev name ++ parameters dev name) of_sets types-same)

  found-old : (text : List ℕ) → IsOld table text → found 0 names text ≡ found 0 own text
  found-old text old = ap (λ ns. found 0 ns text) names-are ∙ found-past wide (numbered first new) own text (others-apart text first new (old-apart table new fresh text old))

  -- where their own types are read
  abbrev of_types : Names
  of_types = names_of_types dev name new

  abbrev hidden : List VariableEntry → List (List ℕ × ℕ)
  hidden vs = map (λ v. (v.text, no_variable)) vs

  hidden-apart : (text : List ℕ) (vs : List VariableEntry) → Each (λ (w : VariableEntry). w.text ≢ text) vs → Each (λ (p : List ℕ × ℕ). p.0 ≢ text) (hidden vs)
  hidden-apart text [] h = tt
  hidden-apart text (v ∷ vs) h = (h.0, hidden-apart text vs h.1)

  found-type : (text : List ℕ) → IsOld table text → found 0 of_types text ≡ found 0 own text
  found-type text old =
      let ps : List (List ℕ × ℕ) = hidden new in
      ap (λ ns. found 0 ns text) (behind-own table ps) ∙ found-past table ps own text (hidden-apart text new (old-apart table new fresh text old))

  -- ---- new variables
  new-plain : (text : List ℕ) (n : ℕ) → n < 2 ^ 64 → text ≡ 118 ∷ decimal n → IsPlainName text
  new-plain text n l e = subst IsPlainName (sym e) (letter-number-plain 118 n refl (omega arith))

  new-found : (k : ℕ) (t : ValueType) (o : Option VariableEntry) → slice_get new k ≡ o → variable_type wide (first + k) ≡ Some t → NewReads wide names (first + k) t
  new-found k t None e h =
      let none : variable_type wide (first + k) ≡ None = ap (option_map (λ (v : VariableEntry). v.of_type)) (slice-past dev.table.variables new k ∙ e) in
      absurd (cc)
  new-found k t (Some v) e h =
      let here : slice_get wide.variables (first + k) ≡ Some v = slice-past dev.table.variables new k ∙ e in
      let text : v.text ≡ name_of_variable wide (first + k) = sym (ap (λ o. or_empty (option_map (λ (x : VariableEntry). x.text) o)) here) in
      let is = new-at table new k v fresh e in
      record {
        plain = subst IsPlainName text (new-plain v.text is.0 is.1 is.2);
        named = subst (λ x. found 0 names x ≡ seen (variable (first + k)) t) text
            (ap (λ ns. found 0 ns v.text) names-are ∙ (found-new wide new first k v own (are-apart table new fresh) e ∙ ap (λ o. sight 0 (variable_meaning (first + k) o)) h));
      }

  news : (n : ℕ) (t : ValueType) → first ≤ n → variable_type wide n ≡ Some t → NewReads wide names n t
  news n t l h =
      let at : first + (n - first) ≡ n = omega arith in
      subst (λ m. NewReads wide names m t) at (new-found (n - first) t (slice_get new (n - first)) refl (ap (variable_type wide) at ∙ h))

  -- ---- the goal reads in the scope with them
  set-stands : (s : ℕ) → SetStands table own s → SetStands wide names s
  set-stands s h = found-old (name_of_set table s) (set-old table s) ∙ h

  type-stands : (t : ValueType) → TypeStands table own t → TypeStands wide names t
  type-stands int_type h = tt
  type-stands bool_type h = tt
  type-stands (enum_type s) h = set-stands s h
  type-stands (pair_type t u) h = (type-stands t h.0, type-stands u h.1)
  type-stands (set_type t) h = type-stands t h

  types-stand : (ts : List ValueType) → TypesStand table own ts → TypesStand wide names ts
  types-stand [] h = tt
  types-stand (t ∷ ts) h = (type-stands t h.0, types-stand ts h.1)

  domain-stands : (d : Domain) → DomainStands table own d → DomainStands wide names d
  domain-stands (Enum s) h = set-stands s h
  domain-stands WholeNumbers h = tt
  domain-stands _ h = tt

  variable-stands : (n : ℕ) (o : Option VariableEntry) → slice_get dev.table.variables n ≡ o → Stands table own (variable n) → Stands wide names (variable n)
  variable-stands n None e h = λ t k. (news n t (none-past dev.table.variables n e) k).named
  variable-stands n (Some v) e h =
      let here : slice_get wide.variables n ≡ slice_get dev.table.variables n = get-wider dev.table.variables new n v e ∙ sym e in
      let same : name_of_variable wide n ≡ name_of_variable table n = ap (λ o. or_empty (option_map (λ (x : VariableEntry). x.text) o)) here in
      let text : v.text ≡ name_of_variable table n = sym (ap (λ o. or_empty (option_map (λ (x : VariableEntry). x.text) o)) e) in
      let old : IsOld table (name_of_variable table n) = inr (subst (Contains (texts_of table)) text (variable-known table n v e)) in
      λ t k. ap (found 0 names) same ∙ (found-old (name_of_variable table n) old ∙ h t (sym (ap (option_map (λ (x : VariableEntry). x.of_type)) here) ∙ k))

  mutual
    goal-stands : (f : Formula) → Stands table own f → Stands wide names f
    goal-stands (variable n) h = variable-stands n (slice_get dev.table.variables n) refl h
    goal-stands (element s i) h = found-old (name_of_element table s i) (element-old table s i) ∙ h
    goal-stands (empty_set t) h = type-stands t h
    goal-stands (named d) h = domain-stands d h
    goal-stands (unary o a) h = goal-stands a h
    goal-stands (binary o a b) h = (goal-stands a h.0, goal-stands b h.1)
    goal-stands (for_all ts p) h = (types-stand ts h.0, goal-stands p h.1)
    goal-stands (for_some ts p) h = (types-stand ts h.0, goal-stands p h.1)
    goal-stands (comprehension rs p) h = (goals-stand rs h.0, goal-stands p h.1)
    goal-stands (lambda rs p e) h = (goals-stand rs h.0, goal-stands p h.1, goal-stands e h.2)
    goal-stands _ h = tt

    goals-stand : (fs : Formulas) → EachStands table own fs → EachStands wide names fs
    goals-stand no_formulas h = tt
    goals-stand (formula_and f fs) h = (goal-stands f h.0, goals-stand fs h.1)

  sets-named : (t : ValueType) → SetsAreNamed table t → SetsAreNamed wide t
  sets-named int_type h = tt
  sets-named bool_type h = tt
  sets-named (enum_type s) h = h
  sets-named (pair_type t u) h = (sets-named t h.0, sets-named u h.1)
  sets-named (set_type t) h = sets-named t h

  all-named : (ts : List ValueType) → AllSetsAreNamed table ts → AllSetsAreNamed wide ts
  all-named [] h = tt
  all-named (t ∷ ts) h = (sets-named t h.0, all-named ts h.1)

  domain-named : (d : Domain) → DomainIsNamed table d → DomainIsNamed wide d
  domain-named (Enum s) h = h
  domain-named WholeNumbers h = tt
  domain-named _ h = tt

  -- a number that is no variable's has no name
  past-readable : (n : ℕ) (k : ℕ) (o : Option VariableEntry) → slice_get new k ≡ o → first + k ≡ n → slice_get dev.table.variables n ≡ None → IsPrintable (name_of_variable table n) → IsPrintable (name_of_variable wide n)
  past-readable n k (Some v) e at none h =
      let here : slice_get wide.variables n ≡ Some v = ap (slice_get wide.variables) (sym at) ∙ (slice-past dev.table.variables new k ∙ e) in
      let is = new-at table new k v fresh e in
      inl (subst IsPlainName (sym (ap (λ o. or_empty (option_map (λ (x : VariableEntry). x.text) o)) here)) (new-plain v.text is.0 is.1 is.2))
  past-readable n k None e at none h =
      let here : slice_get wide.variables n ≡ slice_get dev.table.variables n = ap (slice_get wide.variables) (sym at) ∙ (slice-past dev.table.variables new k ∙ (e ∙ sym none)) in
      subst IsPrintable (sym (ap (λ o. or_empty (option_map (λ (x : VariableEntry). x.text) o)) here)) h

  variable-readable : (n : ℕ) (o : Option VariableEntry) → slice_get dev.table.variables n ≡ o → IsPrintable (name_of_variable table n) → IsPrintable (name_of_variable wide n)
  variable-readable n None e h =
      let l : first ≤ n = none-past dev.table.variables n e in
      past-readable n (n - first) (slice_get new (n - first)) refl (omega arith) e h
  variable-readable n (Some v) e h =
      let here : slice_get wide.variables n ≡ slice_get dev.table.variables n = get-wider dev.table.variables new n v e ∙ sym e in
      subst IsPrintable (sym (ap (λ o. or_empty (option_map (λ (x : VariableEntry). x.text) o)) here)) h

  mutual
    goal-readable : (f : Formula) (d : ℕ) → IsReadable table d f → IsReadable wide d f
    goal-readable (variable n) d h = variable-readable n (slice_get dev.table.variables n) refl h
    goal-readable (empty_set t) d h = sets-named t h
    goal-readable (named x) d h = domain-named x h
    goal-readable (unary o a) d h = goal-readable a d h
    goal-readable (binary o a b) d h = (goal-readable a d h.0, goal-readable b d h.1)
    goal-readable (for_all ts p) d h = (all-named ts h.0, h.1, goal-readable p (d + length ts) h.2)
    goal-readable (for_some ts p) d h = (all-named ts h.0, h.1, goal-readable p (d + length ts) h.2)
    goal-readable (comprehension rs p) d h = (goals-readable rs d h.0, h.1, goal-readable p (d + count rs) h.2)
    goal-readable (lambda rs p e) d h = (goals-readable rs d h.0, h.1, goal-readable p (d + count rs) h.2, goal-readable e (d + count rs) h.3)
    goal-readable _ d h = h

    goals-readable : (fs : Formulas) (d : ℕ) → AreReadable table d fs → AreReadable wide d fs
    goals-readable no_formulas d h = tt
    goals-readable (formula_and f fs) d h = (goal-readable f d h.0, goals-readable fs d h.1)

  goal-reads : (g : Formula) → ReadsIn table own g → ReadsIn wide names g
  goal-reads g r =
      let same : role wide [] g ≡ role table [] g = widening_roles table wide well wider [] g (typed-role (role table [] g) r.typed) in
      record {
        typed = λ e. r.typed (sym same ∙ e);
        binds = r.binds;
        readable = goal-readable g 0 r.readable;
        stands = goal-stands g r.stands;
      }

  -- ---- the rules
  module _ (goal : Formula) (reads : ReadsIn table own goal) where
    part : (f : Formula) → IsPart wide first goal f → ReadsIn wide names f
    part f p = part-reads wide names wide_well first news goal f (goal-reads goal reads) p

    names-read : (ts : List ValueType) (k : ℕ) → first ≤ k → give_each wide ts (names_of (numbers_from k (length ts))) ≡ true → AllSetsAreNamed wide ts → TypesStand wide names ts → Each (NameReads wide names) (numbers_from k (length ts))
    names-read [] k l g a s = tt
    names-read (t ∷ ts) k l g a s =
        let two = and-both (gives_type (role wide [] (variable k)) t) (give_each wide ts (names_of (numbers_from (suc k) (length ts)))) g in
        let typed : variable_type wide k ≡ Some t = given-then wide names (variable_type wide k) t two.0 in
        let is = news k t l typed in
        (record { of_type = t; has_type = typed; plain = is.plain; sets = a.0; named = is.named; stands = s.0 }, names-read ts (suc k) (omega arith) two.1 a.1 s.1)

    some-name : (ts : List ValueType) (ns : List ℕ) → HasSomeType ts → give_each wide ts (names_of ns) ≡ true → HasSome ns
    some-name [] ns h e = absurd h
    some-name (t ∷ ts) (n ∷ ns) h e = tt
    some-name (t ∷ ts) [] h e = absurd (cc)

    fixed-names : (r : Rule) → NamesParts wide first goal r → Each (NameReads wide names) (brought_by r)
    fixed-names (Fix ns) h =
        let p = part (for_all h.0 h.1) h.6 in
        let given : give_each wide h.0 (names_of (numbers_from h.2 (length h.0))) ≡ true = subst (λ (xs : List ℕ). give_each wide h.0 (names_of xs) ≡ true) h.4 h.5 in
        subst (Each (NameReads wide names)) (sym h.4) (names-read h.0 h.2 h.3 given p.readable.0 p.stands.0)
    fixed-names (OpenSome i ns) h = absurd h
    fixed-names _ h = tt

    rule-reads : (r : Rule) → NamesParts wide first goal r → RuleFits r → RuleReads wide names r
    rule-reads (Hyp i) h f = (tt, f)
    rule-reads True h f = (tt, tt)
    rule-reads Same h f = (tt, tt)
    rule-reads (Eval None) h f = (tt, tt)
    rule-reads And h f = (tt, tt)
    rule-reads Imp h f = (tt, tt)
    rule-reads (Split i) h f = (tt, f)
    rule-reads (TypeOf (Goal path)) h f = (tt, each-all IsNumber path.items f)
    rule-reads (Lin ks ls) h f =
        let lines = certificate-reads ls.items h f.1 in
        (tt, (each-all IsNumber ks.items f.0, lines.0, lines.1))
    rule-reads (Law law picks (Goal path)) h f = (tt, ((law-known law h.0, each-map (IsPart wide first goal) (ReadsIn wide names) picks.items part h.1), each-all IsNumber path.items f.1))
    rule-reads (Fix ns) h f =
        let p = part (for_all h.0 h.1) h.6 in
        (tt, (some-name h.0 ns.items p.binds.0 h.5, fixed-names (Fix ns) h))
    rule-reads _ h f = absurd h

    -- ---- the script
    -- the types of new variables read where they are written
    set-read : (s : ℕ) → SetStands wide names s → SetStands table of_types s
    set-read s h = found-type (name_of_set table s) (set-old table s) ∙ (sym (found-old (name_of_set table s) (set-old table s)) ∙ h)

    type-read : (t : ValueType) → TypeStands wide names t → TypeStands table of_types t
    type-read int_type h = tt
    type-read bool_type h = tt
    type-read (enum_type s) h = set-read s h
    type-read (pair_type t u) h = (type-read t h.0, type-read u h.1)
    type-read (set_type t) h = type-read t h

    types-read : (vs front : List VariableEntry) → wide.variables ≡ front ++ vs → Each (NameReads wide names) (numbers_from (length front) (length vs)) → Each (λ v. TypeStands table of_types v.of_type) vs
    types-read [] front e h = tt
    types-read (v ∷ vs) front e h =
        let zero_at : length front ≡ length front + 0 = omega arith in
        let here : slice_get wide.variables (length front) ≡ Some v = ap (λ ws. slice_get ws (length front)) e ∙ (ap (slice_get (front ++ v ∷ vs)) zero_at ∙ slice-past front (v ∷ vs) 0) in
        let same : Some h.0.of_type ≡ Some v.of_type = sym h.0.has_type ∙ ap (option_map (λ (w : VariableEntry). w.of_type)) here in
        let is : h.0.of_type ≡ v.of_type = ap (λ o. unwrap_or o v.of_type) same in
        let long : suc (length front) ≡ length (front ++ v ∷ []) = (let k = length-append front (v ∷ []) in omega arith) in (
          type-read v.of_type (subst (TypeStands wide names) is h.0.stands),
          types-read vs (front ++ v ∷ []) (e ∙ sym (append_assoc front (v ∷ []) vs)) (subst (λ n. Each (NameReads wide names) (numbers_from n (length vs))) long h.1),
        )

    unknown : (big : Table) (vs : List VariableEntry) → ((text : List ℕ) → Contains (texts_of table) text → Contains (texts_of big) text) → AreNew big vs → Each (λ v. is_in_scope (parameters dev name) v.text ≡ false) vs
    unknown big [] f h = tt
    unknown big (v ∷ vs) f h = (
      entries-apart table v.text (λ c. h.0.apart (f v.text c)) (parameters dev name) own-are,
      unknown (with_variable big v) vs (λ text c. text-more big v text (f text c)) h.1,
    )

    pub script-reads : HasSome name → Each NamePartReads name → (rules : List Rule) → Brings table wide goal rules → All RuleFits rules → ScriptReads dev name rules new
    script-reads some parts rules b fits =
        let namings : Each (NamesParts wide first goal) rules = b.each first (omega arith) wide (record { sets = ([], sym (append-nil dev.table.sets)); variables = ([], sym (append-nil wide.variables)) }) in
        let long : length wide.variables ≡ first + length new = length-append dev.table.variables new in
        let same : b.count ≡ length new = (let e = b.longer in omega arith) in
        let numbers : brought rules ≡ numbers_from first (length new) = b.brought_are ∙ ap (numbers_from first) same in
        record {
          some_part = some;
          parts = parts;
          room = room;
          rules_read = both-each (NamesParts wide first goal) RuleFits (RuleReads wide names) rule-reads rules namings (each-all RuleFits rules fits);
          brought = same-brought rules ∙ numbers;
          apart = are-apart table new fresh;
          no_parameters = unknown table new (λ text c. c) fresh;
          types = types-read new dev.table.variables refl (subst (Each (NameReads wide names)) numbers (each-flat (NameReads wide names) (NamesParts wide first goal) brought_by fixed-names rules namings));
        }
