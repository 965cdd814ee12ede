-- What the statements of a development's last level may name and write: constants with values, and variables with cells.
use Rattle.std.proofs.Common.{◌≡◌, inl, inr, ◌<◌, ℕ, zero, suc, pos, List, [], ◌∷◌, ◌++◌, length, refl, sym, ◌∙◌, ap, subst, Bool, true, false, ◌||◌, cond, nat_eq, arith, Some, None, Option}
use Rattle.std.specs.Prelude.{slice_index_or, unwrap_or, find}
use Rattle.std.specs.List.{filter_map, cons_option}
use Rattle.bk_val.specs.ValueType.{ValueType, int_type, bool_type, enum_type}
use Rattle.bk_form.specs.Table.{variable_type}
use Rattle.bk_form.specs.ArrayTable.{row_of}
use Rattle.bk_form.specs.Formula.{Formula, literal, truth_value, element, binary}
use Rattle.bk_form.specs.Role.{gives, role}
use Rattle.bk_form.specs.declared.arrays.ArrayRow.{ArrayRow}
use Rattle.bk_form.specs.declared.arrays.ArrayDomain.{ArrayDomain}
use Rattle.bk_form.specs.declared.operator.BinOp.TheVariants.{TotalFunctions}
use Rattle.bk_form.proofs.Counted.{size-count}
use Rattle.bk_form.proofs.Listed.{gives-same}
use Rattle.bk_form.proofs.Members.{or-left, or-right}
use Rattle.bk_form.proofs.Roles.{if_holds-gives}
use Rattle.bk_gsl.specs.Substitution.{Substitution, pre, guard, choice, if_else, any, seq, par, assert, loop}
use Rattle.bk_gsl.specs.State.{declared_type, among, firsts}
use Rattle.bk_gsl.proofs.States.{nat_eq-same, nat_eq-self, clash, cases, among-append}
use Rattle.bk_dev.specs.declared.kind.Home.{Home}
use Rattle.bk_dev.specs.declared.kind.Home.TheVariants.{Constant, Input, Abstract as AbstractHome, Concrete, Inner}
use Rattle.bk_dev.specs.Development.{Head, Body, Development, int_max, blank_body, is_complete, level_at, body_at, inputs_of, last}
use Rattle.bk_form.specs.Each.{Each}
use Rattle.bk_dev.specs.Facts.{is_constant, is_variable_of, is_inner_of, home_of, AreNew, StaysIn, names_own, names_joined, writes_own, IsSubOf, IsBodyOf, IsLiteral, IsValue, HasItsValues, IsLawful}
use Rattle.bk_dev.specs.Layout.{Clue, in_domain, typing_clue, has_scalars, array_row, row_by, reversed, indices_of, arrays_of, locals, operation_variables, cell_variables}
use Rattle.bk_b0.specs.Kinds.{literal_number, number_as, is_of_kind, literal_value}
use Rattle.bk_dev.proofs.InTable.{blank_head}
use Rattle.bk_dev.proofs.Levels.{last_level, last_paired, body-at}
use Rattle.bk_dev.proofs.Agree.{all-among}
use Rattle.bk_b0.specs.Cells.{IsKnown, IsCell, ValuesHaveKinds, ArraysHaveCells}
use Rattle.bk_b0.proofs.Numbers.{bounds-if, truth-as, truth-kind}

among-left : (xs ys : List ℕ) (n : ℕ) → among xs n ≡ true → among (xs ++ ys) n ≡ true
among-left xs ys n h = among-append xs ys n ∙ or-left (among xs n) (among ys n) h

among-right : (xs ys : List ℕ) (n : ℕ) → among ys n ≡ true → among (xs ++ ys) n ≡ true
among-right xs ys n h = among-append xs ys n ∙ or-right (among xs n) (among ys n) h

pub among-either : (xs ys : List ℕ) (n : ℕ) (P : Type 0) → among (xs ++ ys) n ≡ true → (among xs n ≡ true → P) → (among ys n ≡ true → P) → P
among-either xs ys n P h f g = by_test (among xs n) refl (sym (among-append xs ys n) ∙ h)
  where
    by_test : (b : Bool) → among xs n ≡ b → b || among ys n ≡ true → P
    by_test true q k = f q
    by_test false q k = g k

one_of_two : (a b : Bool) (P : Type 0) → a || b ≡ true → (a ≡ true → P) → (b ≡ true → P) → P
one_of_two true b P h f g = f refl
one_of_two false b P h f g = g h

pub one_of_four : (a b c d : Bool) (P : Type 0) → a || b || c || d ≡ true → (a ≡ true → P) → (b ≡ true → P) → (c ≡ true → P) → (d ≡ true → P) → P
one_of_four true b c d P h on_a on_b on_c on_d = on_a refl
one_of_four false true c d P h on_a on_b on_c on_d = on_b refl
one_of_four false false true d P h on_a on_b on_c on_d = on_c refl
one_of_four false false false d P h on_a on_b on_c on_d = on_d h

-- ---- homes
pub variable_no_constant : (k : ℕ) (o : Option Home) → is_variable_of k o ≡ true → is_constant o ≡ false
variable_no_constant k None h = refl
variable_no_constant k (Some Constant) h = absurd (cc)
variable_no_constant k (Some Input) h = refl
variable_no_constant k (Some (AbstractHome j)) h = refl
variable_no_constant k (Some (Concrete j)) h = refl
variable_no_constant k (Some (Inner j)) h = refl

inner_no_constant : (k : ℕ) (o : Option Home) → is_inner_of k o ≡ true → is_constant o ≡ false
inner_no_constant k None h = refl
inner_no_constant k (Some Constant) h = absurd (cc)
inner_no_constant k (Some Input) h = refl
inner_no_constant k (Some (AbstractHome j)) h = refl
inner_no_constant k (Some (Concrete j)) h = refl
inner_no_constant k (Some (Inner j)) h = refl

-- ---- the values of the constants
module _ (dev : Development) where
  value-kinds : (p : ℕ × Formula) → IsValue dev p → (is_of_kind dev (declared_type dev.table p.0) (literal_number p.1) ≡ true) × (literal_value p.1 ≡ number_as (declared_type dev.table p.0) (literal_number p.1))
  value-kinds p v = by_form p.1 v.is_literal v.of_type
    where
      by_form : (f : Formula) → IsLiteral dev f → ((t : ValueType) × (variable_type dev.table p.0 ≡ Some t) × (role dev.table [] f ≡ gives t)) → (is_of_kind dev (declared_type dev.table p.0) (literal_number f) ≡ true) × (literal_value f ≡ number_as (declared_type dev.table p.0) (literal_number f))
      by_form (literal z) l w =
          let own : declared_type dev.table p.0 ≡ int_type = ap (λ o. unwrap_or o bool_type) w.1 ∙ sym (gives-same int_type w.0 w.2) in
          (ap (λ t. is_of_kind dev t z) own ∙ bounds-if (int_max dev) z l.0 l.1, sym (ap (λ t. number_as t z) own))
      by_form (truth_value b) l w =
          let own : declared_type dev.table p.0 ≡ bool_type = ap (λ o. unwrap_or o bool_type) w.1 ∙ sym (gives-same bool_type w.0 w.2) in
          (ap (λ t. is_of_kind dev t (literal_number (truth_value b))) own ∙ truth-kind dev b, truth-as b ∙ sym (ap (λ t. number_as t (literal_number (truth_value b))) own))
      by_form (element s i) l w =
          let k = if_holds-gives _ (gives (enum_type s)) w.0 w.2 in
          let own : declared_type dev.table p.0 ≡ enum_type s = ap (λ o. unwrap_or o bool_type) w.1 ∙ sym (gives-same (enum_type s) w.0 k.1) in
          (ap (λ t. is_of_kind dev t (pos i)) own ∙ size-count dev.table s i k.0, sym (ap (λ t. number_as t (pos i)) own))
      by_form _ l w = absurd l

  values-kinds : (ps : List (ℕ × Formula)) → Each (IsValue dev) ps → ValuesHaveKinds dev ps
  values-kinds [] h = tt
  values-kinds (p ∷ ps) h = let w = value-kinds p h.0 in (w.0, w.1, values-kinds ps h.1)

  pub value-constant : (ps : List (ℕ × Formula)) → Each (IsValue dev) ps → (n : ℕ) → among (firsts ps) n ≡ true → is_constant (home_of dev n) ≡ true
  value-constant [] h n k = absurd (cc)
  value-constant (p ∷ ps) h n k = by_test (value-constant ps h.1 n) (nat_eq n p.0) refl k
    where
      by_test : (among (firsts ps) n ≡ true → is_constant (home_of dev n) ≡ true) → (b : Bool) → nat_eq n p.0 ≡ b → b || among (firsts ps) n ≡ true → is_constant (home_of dev n) ≡ true
      by_test rest true q r = ap (λ x. is_constant (home_of dev x)) (nat_eq-same n p.0 q) ∙ h.0.constant
      by_test rest false q r = rest r

  -- ---- locals are no constants
  new-out : (scope : ℕ → Bool) (zs : List ℕ) → AreNew scope zs → (n : ℕ) → among zs n ≡ true → scope n ≡ false
  new-out scope [] h n k = absurd (cc)
  new-out scope (z ∷ zs) h n k = by_test (new-out scope zs h.1 n) (nat_eq n z) refl k
    where
      by_test : (among zs n ≡ true → scope n ≡ false) → (b : Bool) → nat_eq n z ≡ b → b || among zs n ≡ true → scope n ≡ false
      by_test rest true q r = ap scope (nat_eq-same n z q) ∙ h.0
      by_test rest false q r = rest r

  abbrev SeesConstants : (ℕ → Bool) → Type 0
  SeesConstants scope = (n : ℕ) → is_constant (home_of dev n) ≡ true → scope n ≡ true

  locals-new : (s : Substitution) (scope above writable : ℕ → Bool) → StaysIn scope above writable s → SeesConstants scope → (n : ℕ) → among (locals s) n ≡ true → is_constant (home_of dev n) ≡ false
  locals-new (pre p s) scope above writable stays sees n h = locals-new s scope above writable stays.1 sees n h
  locals-new (guard p s) scope above writable stays sees n h = locals-new s scope above writable stays.1 sees n h
  locals-new (choice s t) scope above writable stays sees n h = among-either (locals s) (locals t) n _ h (λ k. locals-new s scope above writable stays.0 sees n k) (λ k. locals-new t scope above writable stays.1 sees n k)
  locals-new (if_else p s t) scope above writable stays sees n h = among-either (locals s) (locals t) n _ h (λ k. locals-new s scope above writable stays.1 sees n k) (λ k. locals-new t scope above writable stays.2 sees n k)
  locals-new (any zs s) scope above writable stays sees n h = among-either zs (locals s) n _ h
      (λ k. elim (cases (is_constant (home_of dev n))) [
        | inl c ↦ clash (scope n) (sees n c) (new-out scope zs stays.0 n k)
        | inr c ↦ c
      ])
      (λ k. locals-new s (λ x. among zs x || scope x) above (λ x. among zs x || writable x) stays.2 (λ x c. or-right (among zs x) (scope x) (sees x c)) n k)
  locals-new (seq s t) scope above writable stays sees n h = among-either (locals s) (locals t) n _ h (λ k. locals-new s scope above writable stays.0 sees n k) (λ k. locals-new t scope above writable stays.1 sees n k)
  locals-new (par s t) scope above writable stays sees n h = among-either (locals s) (locals t) n _ h (λ k. locals-new s scope above writable stays.0 sees n k) (λ k. locals-new t scope above writable stays.1 sees n k)
  locals-new (assert p s) scope above writable stays sees n h = locals-new s scope above writable stays.1 sees n h
  locals-new (loop p s i v) scope above writable stays sees n h = locals-new s scope above writable stays.1 sees n h
  locals-new _ scope above writable stays sees n h = absurd (cc)

-- ---- the operations' variables
record HasVariables (hs : List Head) (bs : List Body) (o : ℕ) : Type 0 where
  inputs : (n : ℕ) → among (slice_index_or hs o blank_head).inputs n ≡ true → among (operation_variables hs bs) n ≡ true
  outputs : (n : ℕ) → among (slice_index_or bs o blank_body).outputs n ≡ true → among (operation_variables hs bs) n ≡ true
  inner : (n : ℕ) → among (locals (slice_index_or bs o blank_body).sub) n ≡ true → among (operation_variables hs bs) n ≡ true

has-variables : (hs : List Head) (bs : List Body) (o : ℕ) → o < length hs → length hs ≡ length bs → HasVariables hs bs o
has-variables [] bs o h many = absurd (omega arith)
has-variables (x ∷ hs) [] o h many = absurd (omega (arith, many))
has-variables (x ∷ hs) (b ∷ bs) zero h many =
    let rest = operation_variables hs bs in record {
      inputs = λ n k. among-left (x.inputs ++ b.outputs ++ locals b.sub) rest n (among-left (x.inputs ++ b.outputs) (locals b.sub) n (among-left x.inputs b.outputs n k));
      outputs = λ n k. among-left (x.inputs ++ b.outputs ++ locals b.sub) rest n (among-left (x.inputs ++ b.outputs) (locals b.sub) n (among-right x.inputs b.outputs n k));
      inner = λ n k. among-left (x.inputs ++ b.outputs ++ locals b.sub) rest n (among-right (x.inputs ++ b.outputs) (locals b.sub) n k);
    }
has-variables (x ∷ hs) (b ∷ bs) (suc o) h many =
    let first = x.inputs ++ b.outputs ++ locals b.sub in
    let rest = operation_variables hs bs in
    let w = has-variables hs bs o (omega arith) (omega (arith, many)) in
    record { inputs = λ n k. among-right first rest n (w.inputs n k); outputs = λ n k. among-right first rest n (w.outputs n k); inner = λ n k. among-right first rest n (w.inner n k) }

-- ---- rows
rows-from : (F : ℕ → Option ArrayRow) → ((y : ℕ) (r : ArrayRow) → F y ≡ Some r → r.var ≡ y) → (xs : List ℕ) (x : ℕ) (r : ArrayRow) → find (λ q. nat_eq q.var x) (filter_map F xs) ≡ Some r → (among xs x ≡ true) × (F x ≡ Some r)
rows-from F own [] x r h = absurd (cc)
rows-from F own (y ∷ ys) x r h = by_row (rows-from F own ys x r) (F y) refl h
  where
    by_test : (q : ArrayRow) → F y ≡ Some q → (b : Bool) → nat_eq q.var x ≡ b → ((among ys x ≡ true) × (F x ≡ Some r) → (among (y ∷ ys) x ≡ true) × (F x ≡ Some r)) → (find (λ p. nat_eq p.var x) (filter_map F ys) ≡ Some r → (among ys x ≡ true) × (F x ≡ Some r)) →
        cond b (Some q) (find (λ p. nat_eq p.var x) (filter_map F ys)) ≡ Some r → (among (y ∷ ys) x ≡ true) × (F x ≡ Some r)
    by_test q e true k more rest g =
        let same : y ≡ x = sym (own y q e) ∙ nat_eq-same q.var x k in
        (or-left (nat_eq x y) (among ys x) (subst (λ n. nat_eq x n ≡ true) (sym same) (nat_eq-self x)), subst (λ n. F n ≡ Some q) same e ∙ g)
    by_test q e false k more rest g = more (rest g)

    further : (among ys x ≡ true) × (F x ≡ Some r) → (among (y ∷ ys) x ≡ true) × (F x ≡ Some r)
    further w = (or-right (nat_eq x y) (among ys x) w.0, w.1)

    by_row : (find (λ p. nat_eq p.var x) (filter_map F ys) ≡ Some r → (among ys x ≡ true) × (F x ≡ Some r)) → (o : Option ArrayRow) → F y ≡ o → find (λ q. nat_eq q.var x) (cons_option o (filter_map F ys)) ≡ Some r → (among (y ∷ ys) x ≡ true) × (F x ≡ Some r)
    by_row on None e g = further (on g)
    by_row on (Some q) e g = by_test q e (nat_eq q.var x) refl further on g

module _ (dev : Development) where
  abbrev pub clue : ℕ → Clue
  clue x = typing_clue (Some x) (reversed dev.levels [])

  row-own : (x : ℕ) (c : Clue) (r : ArrayRow) → row_by dev x c ≡ Some r → r.var ≡ x
  row-own x (in_domain (binary TotalFunctions d e)) r h = by_test (has_scalars (variable_type dev.table x)) h
    where
      by_domain : (o : Option ArrayDomain) → array_row x o ≡ Some r → r.var ≡ x
      by_domain None k = absurd (cc)
      by_domain (Some i) k = let same : record { var = x; domain = i } ≡ r = cc in ap (λ (q : ArrayRow). q.var) (sym same)

      by_test : (b : Bool) → cond b (array_row x (indices_of (int_max dev) dev.values d)) None ≡ Some r → r.var ≡ x
      by_test true k = by_domain (indices_of (int_max dev) dev.values d) k
      by_test false k = absurd (cc)
  row-own x c r h = absurd (cc)

  pub row-is : (x : ℕ) (r : ArrayRow) → row_of (arrays_of dev) x ≡ Some r → (among (level_at dev (last dev)).vars x ≡ true) × (row_by dev x (clue x) ≡ Some r)
  row-is x r h = rows-from (λ y. row_by dev y (clue y)) (λ y q k. row-own y (clue y) q k) (level_at dev (last dev)).vars x r h

  -- ---- the level
  module _ (f : IsLawful dev) where
    pub constants-have : ValuesHaveKinds dev dev.values
    constants-have = values-kinds dev dev.values f.values

    pub no-value : (n : ℕ) → is_constant (home_of dev n) ≡ false → among (firsts dev.values) n ≡ false
    no-value n h = elim (cases (among (firsts dev.values) n)) [
      | inl k ↦ clash (is_constant (home_of dev n)) (value-constant dev dev.values f.values n k) h
      | inr k ↦ k
    ]

    abbrev vars : List ℕ
    vars = (level_at dev (last dev)).vars

    abbrev first_locals : List ℕ
    first_locals = locals (level_at dev (last dev)).init

    abbrev rest : List ℕ
    rest = operation_variables dev.heads (level_at dev (last dev)).bodies

    pub var-cell : (n : ℕ) → among vars n ≡ true → IsCell dev n
    var-cell n h = (no-value n (variable_no_constant (last dev) (home_of dev n) (all-among (λ x. is_variable_of (last dev) (home_of dev x)) vars (last_level dev f).vars n h)), among-left (vars ++ first_locals) rest n (among-left vars first_locals n h))

    pub arrays-have : ArraysHaveCells dev
    arrays-have x r h = var-cell x (row-is x r h).0

    -- what a statement with these inputs and outputs may name and write
    module _ (complete : is_complete dev ≡ true) (inputs outputs : List ℕ) (ins : (n : ℕ) → among inputs n ≡ true → among (cell_variables dev) n ≡ true) (outs : (n : ℕ) → among outputs n ≡ true → IsCell dev n) where
      abbrev scope : ℕ → Bool
      scope = names_own dev (last dev) inputs outputs

      abbrev writable : ℕ → Bool
      writable = writes_own dev (last dev) outputs

      pub known : (n : ℕ) → scope n ≡ true → IsKnown dev n
      known n h =
          let values : HasItsValues dev true = subst (HasItsValues dev) complete f.complete in
          let v = among (firsts dev.values) n in
          let c = among (cell_variables dev) n in
          one_of_four (is_constant (home_of dev n)) (among inputs n) (is_variable_of (last dev) (home_of dev n)) (among outputs n) (IsKnown dev n) h
          (λ k. or-left v c (values.1 n k)) (λ k. or-right v c (ins n k)) (λ k. or-right v c (var-cell n ((last_level dev f).all n k)).1) (λ k. or-right v c (outs n k).1)

      pub settable : (n : ℕ) → writable n ≡ true → IsCell dev n × (scope n ≡ true)
      settable n h =
          let c = is_constant (home_of dev n) in
          let i = among inputs n in
          let v = is_variable_of (last dev) (home_of dev n) in
          let o = among outputs n in
          one_of_two v o (IsCell dev n × (scope n ≡ true)) h
          (λ k. (var-cell n ((last_level dev f).all n k), or-left (c || i || v) o (or-right (c || i) v k)))
          (λ k. (outs n k, or-right (c || i || v) o k))

      pub sees : (n : ℕ) → is_constant (home_of dev n) ≡ true → scope n ≡ true
      sees n h =
          let c = is_constant (home_of dev n) in
          let i = among inputs n in
          let v = is_variable_of (last dev) (home_of dev n) in
          let o = among outputs n in
          or-left (c || i || v) o (or-left (c || i) v (or-left c i h))

      pub local-cells : (s : Substitution) → IsSubOf dev (last dev) inputs outputs s → ((n : ℕ) → among (locals s) n ≡ true → among (cell_variables dev) n ≡ true) → (n : ℕ) → among (locals s) n ≡ true → IsCell dev n
      local-cells s facts there n h = (no-value n (locals-new dev s scope (names_joined dev (last dev)) writable facts.stays sees n h), there n h)

    -- ---- the operations and the initialisation
    module _ (o : ℕ) (low : o < length dev.heads) where
      pub body-fact : IsBodyOf dev (last dev) (slice_index_or dev.heads o blank_head) (body_at dev 0 o) (body_at dev (last dev) o)
      body-fact = body-at dev (last dev) dev.heads (level_at dev 0).bodies (level_at dev (last dev)).bodies blank_head o low (last_level dev f).bodies

      have : HasVariables dev.heads (level_at dev (last dev)).bodies o
      have = has-variables dev.heads (level_at dev (last dev)).bodies o low (last_paired dev f)

      pub inputs-there : (n : ℕ) → among (inputs_of dev o) n ≡ true → among (cell_variables dev) n ≡ true
      inputs-there n h = among-right (vars ++ first_locals) rest n (have.inputs n h)

      pub outputs-there : (n : ℕ) → among (body_at dev (last dev) o).outputs n ≡ true → IsCell dev n
      outputs-there n h = (
        no-value n (inner_no_constant (last dev) (home_of dev n) (all-among (λ x. is_inner_of (last dev) (home_of dev x)) (body_at dev (last dev) o).outputs body-fact.outputs n h)),
        among-right (vars ++ first_locals) rest n (have.outputs n h),
      )

      pub locals-there : (n : ℕ) → among (locals (body_at dev (last dev) o).sub) n ≡ true → among (cell_variables dev) n ≡ true
      locals-there n h = among-right (vars ++ first_locals) rest n (have.inner n h)

    pub init-locals-there : (n : ℕ) → among first_locals n ≡ true → among (cell_variables dev) n ≡ true
    init-locals-there n h = among-left (vars ++ first_locals) rest n (among-right vars first_locals n h)
