-- What is told of lists of names, headers, clauses and values, one item after another.
use Rattle.std.proofs.Common.{◌≡◌, ◌≢◌, ◌⊎◌, inl, inr, subst, ℕ, zero, suc, ◌+◌, ◌-◌, ◌<◌, ◌≤◌, List, [], ◌∷◌, ◌++◌, length, get_or, take, drop, refl, sym, ◌∙◌, ap, Bool, true, false, cond, arith, append_assoc}
use Rattle.std.specs.Prelude.{Option, None, Some, ℤ, IsTrue, ◌↔◌, ◌||◌, ◌&&◌, not, nat_eq, nat_lt, nat_le}
use Rattle.std.specs.Str.{bytes_eq}
use Rattle.std.specs.Borrow.{Bor}
use Rattle.std.proofs.lemmas.List.{append-nil, map-append, at_drop_more, drop_all}
use Rattle.std.proofs.lemmas.Bool.Decides.{nat_tests}
use Rattle.bk_gsl.specs.State.{among}
use Rattle.bk_form.specs.Formula.{Formula}
use Rattle.bk_form.specs.Role.{same_type}
use Rattle.bk_form.proofs.Roles.{same_type-then}
use Rattle.bk_raw.proofs.Filled.{same_type-self}
use Rattle.bk_val.specs.ValueType.{ValueType}
use Rattle.bk_elab_terms.specs.declared.sight.Visible.{Visible}
use Rattle.bk_elab_terms.specs.Visible.{visible_names, meaning_of}
use Rattle.bk_raw.specs.declared.term.RawName.{RawName}
use Rattle.bk_raw.specs.declared.component.RawValue.{RawValue}
use Rattle.bk_raw.specs.Trees.ComponentTree.{RawSet}
use Rattle.bk_raw.specs.Meaning.Names.{Names}
use Rattle.bk_raw.specs.Meaning.Binders.{is_text}
use Rattle.bk_raw.specs.Meaning.Outcome.{no_type}
use Rattle.bk_raw.specs.Errors.Blame.{blame, earlier}
use Rattle.bk_raw.proofs.Blamed.{earlier-none}
use Rattle.bk_raw.specs.Errors.Faults.{Fault, twice_named, wrong_value}
use Rattle.bk_statics.specs.Binders.{texts}
use Rattle.bk_statics.specs.Components.{set_names, WrittenVariable, abstract_names}
use Rattle.bk_statics.specs.Typings.{Typing, Target, unknown, no_variable, variable_target, target, as_number, variable_named, interval}
use Rattle.bk_statics.specs.NameFaults.{named_texts, taken, variable_texts}
use Rattle.bk_statics.specs.Above.{names_at_level}
use Rattle.bk_dev.specs.Development.{Development, Level}
use Rattle.bk_statics.specs.OperationFaults.{same_texts}
use Rattle.bk_statics.specs.SubFaults.{is_again, with_target}
use Rattle.bk_statics.specs.LevelOf.{value_of, with_value}
use Rattle.bk_statics.specs.ValueFaults.{is_there, entry_value_faults, with_number, valued}
use Rattle.bk_statics.specs.ClauseFaults.{input_faults}
use Rattle.bk_scope.specs.Shown.{refs, is_typed}
use Rattle.bk_scope.proofs.FaultSteps.{next, last, or-swap, told-more}

-- ---- numbers of an interval
one-ahead : (a k n : ℕ) → (nat_eq n a || (nat_le (suc a) n && nat_lt n (suc a + k))) ≡ (nat_le a n && nat_lt n (a + suc k))
one-ahead a k n = grind (arith, nat_tests)

none-within : (a n : ℕ) → false ≡ (nat_le a n && nat_lt n (a + 0))
none-within a n = grind (arith, nat_tests)

pub within : (a k n : ℕ) → among (interval a k) n ≡ (nat_le a n && nat_lt n (a + k))
within a zero n = none-within a n
within a (suc k) n = ap (λ b. nat_eq n a || b) (within (suc a) k n) ∙ one-ahead a k n

plain-then : (a k n : ℕ) → a ≤ n → nat_lt (n - a) k ≡ (nat_le a n && nat_lt n (a + k))
plain-then a k n h = grind (arith, nat_tests)

plain-else : (a k n : ℕ) → n < a → nat_le a n ≡ (nat_le a n && nat_lt n (a + k))
plain-else a k n h = grind (arith, nat_tests)

-- a number that is not before the first
pub within-then : (a k n : ℕ) → a ≤ n → nat_lt (n - a) k ≡ among (interval a k) n
within-then a k n h = plain-then a k n h ∙ sym (within a k n)

-- one that is
pub within-else : (a k n : ℕ) → n < a → nat_le a n ≡ among (interval a k) n
within-else a k n h = plain-else a k n h ∙ sym (within a k n)

-- ---- texts
pub named-join : (ms ns : Names) → named_texts (ms ++ ns) ≡ named_texts ms ++ named_texts ns
named-join [] ns = refl
named-join (m ∷ ms) ns = ap (λ l. m.text ∷ l) (named-join ms ns)

and-false : (b : Bool) → (b && false) ≡ false
and-false true = refl
and-false false = refl

-- texts of which there are more or fewer are not the same
pub other-length : (xs ys : List (List ℕ)) → length xs ≢ length ys → same_texts xs ys ≡ false
other-length [] [] h = absurd (h refl)
other-length [] (y ∷ ys) h = refl
other-length (x ∷ xs) [] h = refl
other-length (x ∷ xs) (y ∷ ys) h = ap (λ b. bytes_eq x y && b) (other-length xs ys (λ e. h (ap suc e))) ∙ and-false (bytes_eq x y)

pub texts-count : (xs : List RawName) → length (texts xs) ≡ length xs
texts-count [] = refl
texts-count (x ∷ xs) = ap suc (texts-count xs)

pub visible-count : (vs : List Visible) → length (named_texts (visible_names vs)) ≡ length vs
visible-count [] = refl
visible-count (v ∷ vs) = ap suc (visible-count vs)

pub not-false : (b : Bool) → not b ≡ false → b ≡ true
not-false true h = refl
not-false false h = absurd (cc)

-- one text more that is the same
pub same-next : (names : List Visible) (written : List RawName) (i : ℕ) (d : Visible) (w : RawName) (t : List ℕ) (whole : Bool) → i < length names → i < length written → t ≡ (get_or written i w).text → bytes_eq (get_or names i d).text.now t ≡ true →
    same_texts (named_texts (visible_names (drop i names))) (texts (drop i written)) ≡ whole → same_texts (named_texts (visible_names (drop (i + 1) names))) (texts (drop (i + 1) written)) ≡ whole
same-next names written i d w t whole h k e same inv =
    let n : Visible = get_or names i d in
    let rest : Bool = same_texts (named_texts (visible_names (drop (i + 1) names))) (texts (drop (i + 1) written)) in
    let one = at_drop_more (λ (l : List Visible). same_texts (named_texts (visible_names l)) (texts (drop i written))) names i d h in
    let other = at_drop_more (λ (l : List RawName). same_texts (named_texts (visible_names (n ∷ drop (i + 1) names))) (texts l)) written i w k in
    sym (one ∙ (other ∙ (ap (λ (s : List ℕ). bytes_eq n.text.now s && rest) (sym e) ∙ ap (λ (b : Bool). b && rest) same))) ∙ inv

-- ---- names that are taken
pub taken-join : (ts : List (List ℕ)) (xs ys : List RawName) → taken ts (xs ++ ys) ≡ taken ts xs ++ taken ts ys
taken-join ts [] ys = refl
taken-join ts (x ∷ xs) ys =
    let one = cond (is_text ts x.text) (twice_named x.at ∷ []) [] in
    ap (λ l. one ++ l) (taken-join ts xs ys) ∙ sym (append_assoc one (taken ts xs) (taken ts ys))

-- those of a set, and of those behind it
pub taken-set : (ts : List (List ℕ)) (s : RawSet) (ss : List RawSet) → taken ts (set_names (s ∷ ss)) ≡ (cond (is_text ts s.name.text) (twice_named s.name.at ∷ []) [] ++ taken ts s.elements) ++ taken ts (set_names ss)
taken-set ts s ss =
    let one = cond (is_text ts s.name.text) (twice_named s.name.at ∷ []) [] in
    ap (λ l. one ++ l) (taken-join ts s.elements (set_names ss)) ∙ sym (append_assoc one (taken ts s.elements) (taken ts (set_names ss)))

-- those of an abstract variable, and of those behind it
pub taken-abstract : (ts : List (List ℕ)) (v : WrittenVariable) (vs : List WrittenVariable) → taken ts (abstract_names (v ∷ vs)) ≡ taken ts (abstract_names (v ∷ [])) ++ taken ts (abstract_names vs)
taken-abstract ts v vs = go v.is_concrete
  where
    rest : List Fault
    rest = taken ts (abstract_names vs)

    one : List Fault
    one = cond (is_text ts v.name.text) (twice_named v.name.at ∷ []) []

    go : (b : Bool) → taken ts (cond b (abstract_names vs) (v.name ∷ abstract_names vs)) ≡ taken ts (cond b [] (v.name ∷ [])) ++ rest
    go true = refl
    go false = ap (λ l. l ++ rest) (sym (append-nil one))

-- ---- values
number-among : (t : Target) (ns : List ℕ) (n : ℕ) → among (with_number (as_number t) ns) n ≡ among (with_target t ns) n
number-among unknown ns n = refl
number-among no_variable ns n = refl
number-among (variable_target m) ns n = refl

-- of two that may be there, the order does not matter
swapped : (a b : Option ℕ) (ns : List ℕ) (n : ℕ) → among (with_number a (with_number b ns)) n ≡ among (with_number b (with_number a ns)) n
swapped None b ns n = refl
swapped (Some k) None ns n = refl
swapped (Some k) (Some m) ns n = or-swap (nat_eq n k) (nat_eq n m) (among ns n)

with-number : (a : Option ℕ) (ns ms : List ℕ) (n : ℕ) → among ns n ≡ among ms n → among (with_number a ns) n ≡ among (with_number a ms) n
with-number None ns ms n e = e
with-number (Some k) ns ms n e = ap (λ b. nat_eq n k || b) e

-- of entries, one more behind the others
pub valued-push : (globals : Names) (vs : List RawValue) (v : RawValue) (n : ℕ) → among (valued globals (vs ++ v ∷ [])) n ≡ among (with_number (variable_named globals v.name.text) (valued globals vs)) n
valued-push globals [] v n = refl
valued-push globals (u ∷ vs) v n =
    let a = variable_named globals u.name.text in
    let b = variable_named globals v.name.text in
    with-number a (valued globals (vs ++ v ∷ [])) (with_number b (valued globals vs)) n (valued-push globals vs v n) ∙ swapped a b (valued globals vs) n

again-same : (ns ms : List ℕ) (t : Target) → ((n : ℕ) → among ns n ≡ among ms n) → is_again ns t ≡ is_again ms t
again-same ns ms unknown h = refl
again-same ns ms no_variable h = refl
again-same ns ms (variable_target n) h = h n

with-same : (ns ms : List ℕ) (t : Target) → ((n : ℕ) → among ns n ≡ among ms n) → (n : ℕ) → among (with_target t ns) n ≡ among (with_target t ms) n
with-same ns ms unknown h n = h n
with-same ns ms no_variable h n = h n
with-same ns ms (variable_target m) h n = ap (λ b. nat_eq n m || b) (h n)

-- only which constants have an entry before matters, not their order
entries-same : (max : ℤ) (typing : Typing) (globals : Names) (ns ms : List ℕ) (vs : List RawValue) → ((n : ℕ) → among ns n ≡ among ms n) → entry_value_faults max typing globals ns vs ≡ entry_value_faults max typing globals ms vs
entries-same max typing globals ns ms [] h = refl
entries-same max typing globals ns ms (v ∷ vs) h =
    let t = target globals v.name.text in
    let there = is_there (value_of max typing globals v) in
    ap (λ b. cond (there && not b) [] (wrong_value v.name.at ∷ []) ++ entry_value_faults max typing globals (with_target t ns) vs) (again-same ns ms t h)
    ∙ ap (λ l. cond (there && not (is_again ms t)) [] (wrong_value v.name.at ∷ []) ++ l) (entries-same max typing globals (with_target t ns) (with_target t ms) vs (with-same ns ms t h))

-- one entry more
pub entries-next : (max : ℤ) (typing : Typing) (globals : Names) (vs : List (Bor RawValue)) (i : ℕ) (v : Bor RawValue) (right : Bool) (before now after whole : Option Fault) → i < length vs → v ≡ get_or vs i v →
    right ≡ (is_there (value_of max typing globals v.now) && not (is_again (valued globals (refs (take i vs))) (target globals v.now.name.text))) → now ≡ blame (cond right [] (wrong_value v.now.name.at ∷ [])) → after ≡ earlier before now →
    earlier before (blame (entry_value_faults max typing globals (valued globals (refs (take i vs))) (refs (drop i vs)))) ≡ whole →
    earlier after (blame (entry_value_faults max typing globals (valued globals (refs (take (i + 1) vs))) (refs (drop (i + 1) vs)))) ≡ whole
entries-next max typing globals vs i v right before now after whole h e seen k g inv =
    told-more (entry_value_faults max typing globals was (refs (drop i vs))) (cond right [] (wrong_value v.now.name.at ∷ [])) (entry_value_faults max typing globals is ys) before now after whole step k g inv
  where
    was : List ℕ
    was = valued globals (refs (take i vs))

    is : List ℕ
    is = valued globals (refs (take (i + 1) vs))

    ys : List RawValue
    ys = refs (drop (i + 1) vs)

    t : Target
    t = target globals v.now.name.text

    grown : (n : ℕ) → among (with_target t was) n ≡ among is n
    grown n =
        sym (ap (λ l. among l n) (last (λ l. valued globals (refs l)) vs i v h e) ∙ (ap (λ l. among (valued globals l) n) (map-append (λ x. x.now) (take i vs) (v ∷ []))
        ∙ (valued-push globals (refs (take i vs)) v.now n ∙ number-among t was n)))

    step : entry_value_faults max typing globals was (refs (drop i vs)) ≡ cond right [] (wrong_value v.now.name.at ∷ []) ++ entry_value_faults max typing globals is ys
    step =
        next (λ l. entry_value_faults max typing globals was (refs l)) vs i v h e
        ∙ (ap (λ b. cond b [] (wrong_value v.now.name.at ∷ []) ++ entry_value_faults max typing globals (with_target t was) ys) (sym seen)
        ∙ ap (λ l. cond right [] (wrong_value v.now.name.at ∷ []) ++ l) (entries-same max typing globals (with_target t was) is ys grown))

-- ---- types
either-bool : (b : Bool) → (b ≡ true) ⊎ (b ≡ false)
either-bool true = inl refl
either-bool false = inr refl

-- a test that holds of the same types alone
pub same-by : (b : Bool) (t u : ValueType) → IsTrue b ↔ (t ≡ u) → b ≡ same_type t u
same-by true t u h = sym (subst (λ x. same_type t x ≡ true) (h.0 refl) (same_type-self t))
same-by false t u h = elim (either-bool (same_type t u)) [ inl e ↦ let k : false ≡ true = h.1 (same_type-then t u e) in absurd (cc) | inr e ↦ sym e ]

-- ---- entries that are for a constant

-- a value with its constant, and those behind it
pub value-next : (n : Option ℕ) (f : Option Formula) (vs : List (ℕ × Formula)) → with_value n f vs ≡ with_value n f [] ++ vs
value-next None f vs = refl
value-next (Some n) None vs = refl
value-next (Some n) (Some f) vs = refl

-- ---- variables of levels
pub variables-next : (dev : Development) (levels : List Level) (i : ℕ) (l : Level) (old more new : List Visible) (whole : List (List ℕ)) → i < length levels → l ≡ get_or levels i l → visible_names more ≡ names_at_level i dev.table l.vars → new ≡ old ++ more →
    named_texts (visible_names old) ++ variable_texts i dev (drop i levels) ≡ whole → named_texts (visible_names new) ++ variable_texts (i + 1) dev (drop (i + 1) levels) ≡ whole
variables-next dev levels i l old more new whole h e named grown inv =
    let rest : List (List ℕ) = variable_texts (i + 1) dev (drop (i + 1) levels) in
    let succ : suc i ≡ i + 1 = omega arith in
    let step : variable_texts i dev (drop i levels) ≡ named_texts (names_at_level i dev.table l.vars) ++ rest =
    next (variable_texts i dev) levels i l h e ∙ ap (λ (n : ℕ). named_texts (names_at_level i dev.table l.vars) ++ variable_texts n dev (drop (i + 1) levels)) succ in
    ap (λ (vs : List Visible). named_texts (visible_names vs) ++ rest) grown
    ∙ (ap (λ (ns : Names). named_texts ns ++ rest) (map-append (λ (v : Visible). record { text = v.text.now; meaning = meaning_of v.meaning }) old more)
    ∙ (ap (λ (ts : List (List ℕ)). ts ++ rest) (named-join (visible_names old) (visible_names more))
    ∙ (append_assoc (named_texts (visible_names old)) (named_texts (visible_names more)) rest
    ∙ (ap (λ (ns : Names). named_texts (visible_names old) ++ (named_texts ns ++ rest)) named ∙ (ap (λ (ts : List (List ℕ)). named_texts (visible_names old) ++ ts) (sym step) ∙ inv)))))

-- ---- inputs
pub no-inputs : (typing : Typing) (ns : Names) → input_faults typing ns [] ≡ []
no-inputs typing [] = refl
no-inputs typing (n ∷ ns) = refl

-- one input more
pub input-next : (typing : Typing) (names : List Visible) (inputs : List RawName) (i : ℕ) (d : Visible) (x : RawName) (before now after whole : Option Fault) → i < length names → i < length inputs → x ≡ get_or inputs i x →
    now ≡ blame (cond (is_typed typing (meaning_of (get_or names i d).meaning)) [] (no_type x.at)) → after ≡ earlier before now →
    earlier before (blame (input_faults typing (visible_names (drop i names)) (drop i inputs))) ≡ whole → earlier after (blame (input_faults typing (visible_names (drop (i + 1) names)) (drop (i + 1) inputs))) ≡ whole
input-next typing names inputs i d x before now after whole h k e told f inv =
    told-more (input_faults typing (visible_names (drop i names)) (drop i inputs)) (cond (is_typed typing (meaning_of (get_or names i d).meaning)) [] (no_type x.at)) (input_faults typing (visible_names (drop (i + 1) names)) (drop (i + 1) inputs)) before now after whole
    (at_drop_more (λ (l : List Visible). input_faults typing (visible_names l) (drop i inputs)) names i d h ∙ next (λ (l : List RawName). input_faults typing (visible_names (get_or names i d ∷ drop (i + 1) names)) l) inputs i x k e) told f inv

-- where there is no name any more
pub inputs-past : (typing : Typing) (names : List Visible) (inputs : List RawName) (i : ℕ) (fault whole : Option Fault) → length names ≤ i → earlier fault (blame (input_faults typing (visible_names (drop i names)) (drop i inputs))) ≡ whole → fault ≡ whole
inputs-past typing names inputs i fault whole h inv =
    sym (earlier-none fault) ∙ (ap (λ (l : List Visible). earlier fault (blame (input_faults typing (visible_names l) (drop i inputs)))) (sym (drop_all i names h)) ∙ inv)

-- where there is no input any more
pub inputs-end : (typing : Typing) (names : List Visible) (inputs : List RawName) (i : ℕ) (fault whole : Option Fault) → length inputs ≤ i → earlier fault (blame (input_faults typing (visible_names (drop i names)) (drop i inputs))) ≡ whole → fault ≡ whole
inputs-end typing names inputs i fault whole h inv =
    sym (earlier-none fault) ∙ (ap (λ l. earlier fault (blame l)) (sym (no-inputs typing (visible_names (drop i names)))) ∙ (ap (λ (l : List RawName). earlier fault (blame (input_faults typing (visible_names (drop i names)) l))) (sym (drop_all i inputs h)) ∙ inv))
