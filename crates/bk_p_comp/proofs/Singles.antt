-- One set, one value and one operation, as the code reads them piece by piece.
use Rattle.std.specs.Prelude.{false, ◌≡◌, ◌≢◌, ◌⊎◌, ℕ, true, List, [], ◌∷◌, ◌++◌, Some, None, refl}
use Rattle.std.proofs.Common.{inl, inr, arith, sym, ◌∙◌, ap, subst, append_assoc}
use Rattle.bk_form.specs.declared.token.Token.{Token}
use Rattle.bk_form.specs.declared.token.TokenKind.TheVariants.{Sign}
use Rattle.bk_ops.specs.declared.sign.TheConstants.{EQUAL, OUTPUTS, OPEN_PAREN, CLOSE_PAREN, OPEN_BRACE, CLOSE_BRACE}
use Rattle.bk_raw.specs.Grammar.ComponentSpelling.{Elements, Inputs, Operation, Outputs, Value}
use Rattle.bk_raw.specs.Trees.ComponentTree.{RawOperation, RawSet}
use Rattle.bk_raw.specs.Grammar.Pieces.{JustSign, ◌⌢◌, InParentheses}
use Rattle.bk_raw.specs.Trees.RawTree.{RawTree}
use Rattle.bk_raw.specs.Grammar.Reading.{name}
use Rattle.bk_raw.specs.Grammar.Spelling.{Declared, Names, Spells}
use Rattle.bk_raw.specs.Grammar.SubSpelling.{Sub}
use Rattle.bk_raw.specs.Trees.SubTree.{SubTree}
use Rattle.bk_raw.specs.declared.component.RawValue.{RawValue}
use Rattle.bk_raw.specs.declared.term.RawName.{RawName}
use Rattle.bk_raw.proofs.ClauseOne.{names-to}
use Rattle.bk_raw.proofs.Lists.{absent-then}
use Rattle.bk_raw.proofs.Patterns.{first, same-token}
use Rattle.bk_raw.proofs.Shapes.{regrouped}
use Rattle.bk_raw.proofs.Steps.{Piece, stepped}
use Rattle.bk_raw.proofs.SubLeads.{lead, lead-behind}
use Rattle.bk_raw.proofs.SubOne.{one-name, one-names}
use Rattle.bk_raw.proofs.SubParts.{of_names, is_names}
use Rattle.bk_raw.proofs.TermRuns.{all-names, ends_names, one-declared}
use Rattle.bk_p_expr.specs.Fronts.{Longest, Nothing}
use Rattle.bk_p_sub.specs.Found.{Ahead, NotAhead}
use Rattle.bk_p_sub.specs.Longest.{Left}
use Rattle.bk_p_sub.proofs.Fronts.{name_longest, name_nothing, none_ahead}
use Rattle.bk_p_sub.proofs.Openings.{kind_names, not_before}
use Rattle.bk_p_sub.proofs.Steps.{StopsOn, stops_on_just, stops_on_last, left_whole, left_part, left_nothing, left_longest, longest_token, nothing_begins, nothing_joined}
use Rattle.bk_p_sub.proofs.Targets.{left_ahead}
use Rattle.bk_p_comp.specs.Entries.{Bodied, CompleteSet, HasNoInputs, IsInputs, IsOutputs}

-- ---- two steps after another
left_left : {A B C : Type 0} (Written : A → Piece) (Middle : B → Piece) (Behind : C → Piece) (tokens ts rest : List Token) (make : B → A) (more : C → B) → Left Written tokens Middle ts make → Left Middle ts Behind rest more → Left Written tokens Behind rest (λ y. make (more y))
left_left Written Middle Behind tokens ts rest make more l m = record {
  before = l.before ++ m.before;
  splits = l.splits ∙ ap (λ us. l.before ++ us) m.splits ∙ sym (append_assoc l.before m.before rest);
  into = λ y back k. subst (Written (make (more y))) (sym (append_assoc l.before m.before back)) (l.into (more y) (m.before ++ back) (m.into y back k));
  only = λ x front after e k.
      let o = l.only x front after e k in
      let p = m.only o.0 o.1 after o.3 o.4 in
      (p.0, p.1, o.2 ∙ ap make p.2, p.3, p.4);
}

not_empty : (x : RawName) (xs : List RawName) → x ∷ xs ≡ [] → ⊥
not_empty x xs e = cc

-- ---- names between two signs
abbrev pub Between : ℕ → ℕ → List RawName → Piece
Between opening closing xs = JustSign opening ⌢ Names xs ⌢ JustSign closing

-- the sign that closes is no comma
abbrev Closes : ℕ → Type 0
Closes closing = stepped ends_names 0 true (Sign closing) ≡ None

inside_left : (opening closing : ℕ) (tokens inside : List Token) → Ahead (Sign opening) tokens inside → Left (Between opening closing) tokens (λ (xs : List RawName). Names xs ⌢ JustSign closing) inside (λ xs. xs)
inside_left opening closing tokens inside a = left_ahead (Between opening closing) (Sign opening) (λ (xs : List RawName). Names xs ⌢ JustSign closing) tokens tokens inside (λ xs. xs) (left_whole (Between opening closing) tokens) a

behind_left : (opening closing : ℕ) → Closes closing → (tokens inside behind : List Token) (xs : List RawName) → Ahead (Sign opening) tokens inside → Longest Names inside xs behind → Left (Between opening closing) tokens (λ (_ : Unit {0}). JustSign closing) behind (λ _. xs)
behind_left opening closing s tokens inside behind xs a h = left_part (Between opening closing) Names (λ (xs : List RawName). Names xs ⌢ JustSign closing) (λ (_ : Unit {0}). JustSign closing) (λ x y. x) ends_names all-names one-names (stops_on_last ends_names (Sign closing) s) (λ z back k. (z, tt, refl, k)) (λ x y back k. k) tokens inside behind (λ xs. xs) xs (inside_left opening closing tokens inside a) h

pub between_found : (opening closing : ℕ) → Closes closing → (tokens inside behind rest : List Token) (xs : List RawName) → Ahead (Sign opening) tokens inside → Longest Names inside xs behind → Ahead (Sign closing) behind rest → Longest (Between opening closing) tokens xs rest
between_found opening closing s tokens inside behind rest xs a h c =
    left_longest (Between opening closing) (λ (_ : Unit {0}). JustSign closing) tokens behind rest (λ _. xs) tt (behind_left opening closing s tokens inside behind xs a h)
    (subst (λ us. Longest (λ (_ : Unit {0}). JustSign closing) us tt rest) (sym c.1) (longest_token (Sign closing) c.0 rest c.2))

pub between_none_last : (opening closing : ℕ) → Closes closing → (tokens inside behind : List Token) (xs : List RawName) → Ahead (Sign opening) tokens inside → Longest Names inside xs behind → NotAhead (Sign closing) behind → Nothing (Between opening closing) tokens
between_none_last opening closing s tokens inside behind xs a h n = left_nothing (Between opening closing) (λ (_ : Unit {0}). JustSign closing) tokens behind (λ _. xs) (behind_left opening closing s tokens inside behind xs a h) (λ _ front after e k. n k.0 after (e ∙ ap (λ us. us ++ after) k.1) k.2)

pub between_none_inside : (opening closing : ℕ) (tokens inside : List Token) → Ahead (Sign opening) tokens inside → Nothing Names inside → Nothing (Between opening closing) tokens
between_none_inside opening closing tokens inside a n = left_nothing (Between opening closing) (λ (xs : List RawName). Names xs ⌢ JustSign closing) tokens inside (λ xs. xs) (inside_left opening closing tokens inside a) (λ xs front after e k. n xs k.0 (k.1 ++ after) (e ∙ ap (λ us. us ++ after) k.2 ∙ append_assoc k.0 k.1 after) k.3)

pub between_none : (opening closing : ℕ) (tokens : List Token) → NotAhead (Sign opening) tokens → Nothing (Between opening closing) tokens
between_none opening closing tokens n = nothing_begins (Sign opening) (λ (xs : List RawName). Names xs ⌢ JustSign closing) tokens n

-- ---- values
abbrev value_of : RawName → RawTree → RawValue
value_of x e = record { name = x; value = e }

value_named : (tokens ts : List Token) (x : RawName) → name tokens ≡ Some (x, ts) → Left Value tokens (λ (e : RawTree). JustSign EQUAL ⌢ Spells e) ts (λ e. value_of x e)
value_named tokens ts x e = left_part Value Declared Value (λ (e : RawTree). JustSign EQUAL ⌢ Spells e) value_of ends_names one-declared one-name (stops_on_just ends_names (Sign EQUAL) (λ (e : RawTree). Spells e) refl) (λ v back h. (v.name, v.value, refl, h)) (λ x e back h. h) tokens tokens ts (λ v. v) x (left_whole Value tokens) (name_longest tokens ts x e)

value_behind : (tokens ts more : List Token) (x : RawName) → name tokens ≡ Some (x, ts) → Ahead (Sign EQUAL) ts more → Left Value tokens Spells more (λ e. value_of x e)
value_behind tokens ts more x e a = left_ahead Value (Sign EQUAL) Spells tokens ts more (λ e. value_of x e) (value_named tokens ts x e) a

pub value_found : (tokens ts more rest : List Token) (x : RawName) (t : RawTree) → name tokens ≡ Some (x, ts) → Ahead (Sign EQUAL) ts more → Longest Spells more t rest → Longest Value tokens (record { name = x; value = t }) rest
value_found tokens ts more rest x t e a h = left_longest Value Spells tokens more rest (λ e. value_of x e) t (value_behind tokens ts more x e a) h

pub value_none_term : (tokens ts more : List Token) (x : RawName) → name tokens ≡ Some (x, ts) → Ahead (Sign EQUAL) ts more → Nothing Spells more → Nothing Value tokens
value_none_term tokens ts more x e a n = left_nothing Value Spells tokens more (λ e. value_of x e) (value_behind tokens ts more x e a) n

pub value_none_sign : (tokens ts : List Token) (x : RawName) → name tokens ≡ Some (x, ts) → NotAhead (Sign EQUAL) ts → Nothing Value tokens
value_none_sign tokens ts x e n = left_nothing Value (λ (e : RawTree). JustSign EQUAL ⌢ Spells e) tokens ts (λ e. value_of x e) (value_named tokens ts x e) (nothing_begins (Sign EQUAL) (λ (e : RawTree). Spells e) ts n)

pub value_none : (tokens : List Token) → name tokens ≡ None → Nothing Value tokens
value_none tokens e = nothing_joined Declared Value (λ (e : RawTree). JustSign EQUAL ⌢ Spells e) value_of (λ v back h. (v.name, v.value, refl, h)) tokens (name_nothing tokens e)

-- ---- sets with elements
abbrev set_of : RawName → List RawName → RawSet
set_of x xs = record { name = x; elements = xs }

abbrev Braced : List RawName → Piece
Braced xs = JustSign EQUAL ⌢ Between OPEN_BRACE CLOSE_BRACE xs

of_elements : (xs : List RawName) (ts : List Token) → Elements xs ts → xs ≢ [] → Braced xs ts
of_elements [] ts h n = absurd (n refl)
of_elements (x ∷ xs) ts h n = h

to_elements : (xs : List RawName) (ts : List Token) → Braced xs ts → Elements xs ts × (xs ≢ [])
to_elements [] ts h = absurd h.4.4.3
to_elements (x ∷ xs) ts h = (h, λ e. not_empty x xs e)

set_apart : (s : RawSet) (ts : List Token) → CompleteSet s ts → (x : RawName) × (xs : List RawName) × (s ≡ set_of x xs) × (Declared x ⌢ Braced xs) ts
set_apart s ts (h, n) = (s.name, s.elements, refl, (h.0, h.1, h.2, h.3, of_elements s.elements h.1 h.4 n))

set_together : (x : RawName) (xs : List RawName) (ts : List Token) → (Declared x ⌢ Braced xs) ts → CompleteSet (set_of x xs) ts
set_together x xs ts h = let b = to_elements xs h.1 h.4 in ((h.0, h.1, h.2, h.3, b.0), b.1)

set_named : (tokens ts : List Token) (x : RawName) → name tokens ≡ Some (x, ts) → Left CompleteSet tokens Braced ts (λ xs. set_of x xs)
set_named tokens ts x e = left_part CompleteSet Declared CompleteSet Braced set_of ends_names one-declared one-name (stops_on_just ends_names (Sign EQUAL) (Between OPEN_BRACE CLOSE_BRACE) refl) set_apart set_together tokens tokens ts (λ s. s) x (left_whole CompleteSet tokens) (name_longest tokens ts x e)

set_behind : (tokens ts more : List Token) (x : RawName) → name tokens ≡ Some (x, ts) → Ahead (Sign EQUAL) ts more → Left CompleteSet tokens (Between OPEN_BRACE CLOSE_BRACE) more (λ xs. set_of x xs)
set_behind tokens ts more x e a = left_ahead CompleteSet (Sign EQUAL) (Between OPEN_BRACE CLOSE_BRACE) tokens ts more (λ xs. set_of x xs) (set_named tokens ts x e) a

pub set_found : (tokens ts more rest : List Token) (x : RawName) (xs : List RawName) → name tokens ≡ Some (x, ts) → Ahead (Sign EQUAL) ts more → Longest (Between OPEN_BRACE CLOSE_BRACE) more xs rest → Longest CompleteSet tokens (record { name = x; elements = xs }) rest
set_found tokens ts more rest x xs e a h = left_longest CompleteSet (Between OPEN_BRACE CLOSE_BRACE) tokens more rest (λ xs. set_of x xs) xs (set_behind tokens ts more x e a) h

pub set_none_behind : (tokens ts more : List Token) (x : RawName) → name tokens ≡ Some (x, ts) → Ahead (Sign EQUAL) ts more → Nothing (Between OPEN_BRACE CLOSE_BRACE) more → Nothing CompleteSet tokens
set_none_behind tokens ts more x e a n = left_nothing CompleteSet (Between OPEN_BRACE CLOSE_BRACE) tokens more (λ xs. set_of x xs) (set_behind tokens ts more x e a) n

pub set_none_sign : (tokens ts : List Token) (x : RawName) → name tokens ≡ Some (x, ts) → NotAhead (Sign EQUAL) ts → Nothing CompleteSet tokens
set_none_sign tokens ts x e n = left_nothing CompleteSet Braced tokens ts (λ xs. set_of x xs) (set_named tokens ts x e) (nothing_begins (Sign EQUAL) (Between OPEN_BRACE CLOSE_BRACE) ts n)

pub set_none : (tokens : List Token) → name tokens ≡ None → Nothing CompleteSet tokens
set_none tokens e = nothing_joined Declared CompleteSet Braced set_of set_apart tokens (name_nothing tokens e)

-- ---- operations: what stands behind the outputs, and behind the name
record Call : Type 0 where
  called : RawName
  inputs : List RawName
  body : SubTree

record Given : Type 0 where
  inputs : List RawName
  body : SubTree

abbrev Called : Call → Piece
Called c = Declared c.called ⌢ Inputs c.inputs ⌢ Bodied c.body

abbrev Giving : Given → Piece
Giving g = Inputs g.inputs ⌢ Bodied g.body

abbrev with_outputs : List RawName → Call → RawOperation
with_outputs xs c = record { outputs = xs; name = c.called; inputs = c.inputs; body = c.body }

abbrev call_of : RawOperation → Call
call_of o = record { called = o.name; inputs = o.inputs; body = o.body }

abbrev named : RawName → Given → Call
named x g = record { called = x; inputs = g.inputs; body = g.body }

abbrev given : List RawName → SubTree → Given
given xs s = record { inputs = xs; body = s }

-- ---- outputs
abbrev WithSign : List RawName → Piece
WithSign xs = Names xs ⌢ JustSign OUTPUTS

names_to_sign : (tokens front rest after : List Token) (x y : RawName) (xs ys : List RawName) (K : Piece) → tokens ≡ front ++ after → Longest WithSign tokens (x ∷ xs) rest → (WithSign (y ∷ ys) ⌢ K) front → (back : List Token) × (y ∷ ys ≡ x ∷ xs) × (rest ≡ back ++ after) × K back
names_to_sign tokens front rest after x y xs ys K e h k =
    let R : Piece = λ us. us ≡ rest in
    let S : Piece = λ us. us ≡ k.1 ++ after in
    let r = names-to OUTPUTS (x ∷ xs) (y ∷ ys) R S tokens refl
    (regrouped (Names (x ∷ xs)) (JustSign OUTPUTS) R tokens (h.written, rest, h.splits, h.spelled, refl))
    (regrouped (Names (y ∷ ys)) (JustSign OUTPUTS) S tokens (k.0, k.1 ++ after, e ∙ ap (λ us. us ++ after) k.2 ∙ append_assoc k.0 k.1 after, k.3, refl)) in
    (k.1, sym r.0, sym r.1.1 ∙ r.1.2, k.4)

-- a name with no outputs before it is followed by a parenthesis or by an equality
call_leads : (x : RawName) (xs : List RawName) (s : SubTree) (front after tokens : List Token) → tokens ≡ front ++ after → (Declared x ⌢ Inputs xs ⌢ Bodied s) front → (lead tokens ≡ EQUAL) ⊎ (lead tokens ≡ OPEN_PAREN)
call_leads x [] s front after tokens e h =
    let b = absent-then (Bodied s) h.1 h.4 in
    inl (lead-behind (x ∷ []) EQUAL (λ us. us ≡ b.1 ++ after) tokens refl (h.0, h.1 ++ after, e ∙ ap (λ us. us ++ after) h.2 ∙ append_assoc h.0 h.1 after, h.3, (b.0, b.1 ++ after, ap (λ us. us ++ after) b.2 ∙ append_assoc b.0 b.1 after, b.3, refl)))
call_leads x (y ∷ ys) s front after tokens e h =
    let b = regrouped (JustSign OPEN_PAREN) (Names (y ∷ ys) ⌢ JustSign CLOSE_PAREN) (Bodied s) h.1 h.4 in
    inr (lead-behind (x ∷ []) OPEN_PAREN (λ us. us ≡ b.1 ++ after) tokens refl (h.0, h.1 ++ after, e ∙ ap (λ us. us ++ after) h.2 ∙ append_assoc h.0 h.1 after, h.3, (b.0, b.1 ++ after, ap (λ us. us ++ after) b.2 ∙ append_assoc b.0 b.1 after, b.3, refl)))

sign_leads : (tokens rest : List Token) (xs : List RawName) → Longest WithSign tokens xs rest → lead tokens ≡ OUTPUTS
sign_leads tokens rest xs h = lead-behind xs OUTPUTS (λ us. us ≡ rest) tokens refl (regrouped (Names xs) (JustSign OUTPUTS) (λ us. us ≡ rest) tokens (h.written, rest, h.splits, h.spelled, refl))

no_call : (tokens : List Token) → lead tokens ≡ OUTPUTS → (lead tokens ≡ EQUAL) ⊎ (lead tokens ≡ OPEN_PAREN) → ⊥
no_call tokens here (inl e) = omega (arith, here, e)
no_call tokens here (inr e) = omega (arith, here, e)

outputs_apart : (tokens rest : List Token) (xs : List RawName) → IsOutputs tokens xs rest → (ys : List RawName) (c : Call) (front after : List Token) → tokens ≡ front ++ after → (Outputs ys ⌢ Called c) front → (back : List Token) × (ys ≡ xs) × (rest ≡ back ++ after) × Called c back
outputs_apart tokens rest [] h [] c front after e k = (front, refl, h.0 ∙ e, absent-then (Called c) front k)
outputs_apart tokens rest [] h (y ∷ ys) c front after e k = absurd (h.1 (y ∷ ys) k.0 (k.1 ++ after) (e ∙ ap (λ us. us ++ after) k.2 ∙ append_assoc k.0 k.1 after) k.3)
outputs_apart tokens rest (x ∷ xs) h [] c front after e k = absurd (no_call tokens (sign_leads tokens rest (x ∷ xs) h) (call_leads c.called c.inputs c.body front after tokens e (absent-then (Called c) front k)))
outputs_apart tokens rest (x ∷ xs) h (y ∷ ys) c front after e k = names_to_sign tokens front rest after x y xs ys (Called c) e h k

outputs_only : (tokens rest : List Token) (xs : List RawName) → IsOutputs tokens xs rest → (o : RawOperation) (front after : List Token) → tokens ≡ front ++ after → Operation o front → (c : Call) × (back : List Token) × (o ≡ with_outputs xs c) × (rest ≡ back ++ after) × Called c back
outputs_only tokens rest xs h o front after e k =
    let a = outputs_apart tokens rest xs h o.outputs (call_of o) front after e k in
    (call_of o, a.0, ap (λ ys. with_outputs ys (call_of o)) a.1, a.2, a.3)

outputs_left : (tokens rest : List Token) (xs : List RawName) → IsOutputs tokens xs rest → Left Operation tokens Called rest (λ c. with_outputs xs c)
outputs_left tokens rest [] h = record {
  before = [];
  splits = sym h.0;
  into = λ c back k. ([], back, refl, refl, k);
  only = outputs_only tokens rest [] h;
}
outputs_left tokens rest (x ∷ xs) h = record {
  before = h.written;
  splits = h.splits;
  into = λ c back k. (h.written, back, refl, h.spelled, k);
  only = outputs_only tokens rest (x ∷ xs) h;
}

names_there : (tokens : List Token) → Nothing Names tokens → (ys : List RawName) (c : Call) (front after : List Token) → tokens ≡ front ++ after → (Outputs ys ⌢ Called c) front → ⊥
names_there tokens n [] c front after e k =
    let b = absent-then (Called c) front k in
    n (c.called ∷ []) b.0 (b.1 ++ after) (e ∙ ap (λ us. us ++ after) b.2 ∙ append_assoc b.0 b.1 after) b.3
names_there tokens n (y ∷ ys) c front after e k =
    let b = regrouped (Names (y ∷ ys)) (JustSign OUTPUTS) (Called c) front k in
    n (y ∷ ys) b.0 (b.1 ++ after) (e ∙ ap (λ us. us ++ after) b.2 ∙ append_assoc b.0 b.1 after) b.3

pub operation_none : (tokens : List Token) → Nothing Names tokens → Nothing Operation tokens
operation_none tokens n o front after e k = names_there tokens n o.outputs (call_of o) front after e k

-- the answers of outputs
pub outputs_none : (tokens rest : List Token) (xs none : List RawName) → Longest Names tokens xs rest → NotAhead (Sign OUTPUTS) rest → none ≡ [] → IsOutputs tokens none tokens
outputs_none tokens rest xs none h n e = subst (λ ys. IsOutputs tokens ys tokens) (sym e) (refl, not_before false is_names Names of_names (kind_names false) (Sign OUTPUTS) refl tokens rest xs h n)

outputs_written : (tokens rest : List Token) (xs : List RawName) → Longest WithSign tokens xs rest → IsOutputs tokens xs rest
outputs_written tokens rest [] h = absurd h.spelled.3
outputs_written tokens rest (x ∷ xs) h = h

pub outputs_found : (tokens behind rest : List Token) (xs : List RawName) → Longest Names tokens xs behind → Ahead (Sign OUTPUTS) behind rest → IsOutputs tokens xs rest
outputs_found tokens behind rest xs h a =
    outputs_written tokens rest xs (left_longest WithSign (λ (_ : Unit {0}). JustSign OUTPUTS) tokens behind rest (λ _. xs) tt
    (left_part WithSign Names WithSign (λ (_ : Unit {0}). JustSign OUTPUTS) (λ x y. x) ends_names all-names one-names (stops_on_last ends_names (Sign OUTPUTS) refl) (λ z back k. (z, tt, refl, k)) (λ x y back k. k) tokens tokens behind (λ t. t) xs (left_whole WithSign tokens) h)
    (subst (λ us. Longest (λ (_ : Unit {0}). JustSign OUTPUTS) us tt rest) (sym a.1) (longest_token (Sign OUTPUTS) a.0 rest a.2)))

-- ---- the name
stops_giving : (xs : List RawName) (s : SubTree) → StopsOn ends_names (λ (_ : Unit {0}). Inputs xs ⌢ Bodied s)
stops_giving [] s y back after h = stops_on_just ends_names (Sign EQUAL) (λ (_ : Unit {0}). Sub false s 1) refl tt back after (absent-then (Bodied s) back h)
stops_giving (x ∷ xs) s y back after h = stops_on_just ends_names (Sign OPEN_PAREN) (λ (_ : Unit {0}). (Names (x ∷ xs) ⌢ JustSign CLOSE_PAREN) ⌢ Bodied s) refl tt back after (regrouped (JustSign OPEN_PAREN) (Names (x ∷ xs) ⌢ JustSign CLOSE_PAREN) (Bodied s) back h)

name_left : (tokens behind rest : List Token) (xs : List RawName) (x : RawName) → IsOutputs tokens xs behind → name behind ≡ Some (x, rest) → Left Operation tokens Giving rest (λ g. with_outputs xs (named x g))
name_left tokens behind rest xs x h e = left_part Operation Declared Called Giving named ends_names one-declared one-name (λ g back after k. stops_giving g.inputs g.body tt back after k) (λ c back k. (c.called, record { inputs = c.inputs; body = c.body }, refl, k)) (λ x g back k. k) tokens behind rest (λ c. with_outputs xs c) x (outputs_left tokens behind xs h) (name_longest behind rest x e)

pub operation_none_name : (tokens behind : List Token) (xs : List RawName) → IsOutputs tokens xs behind → name behind ≡ None → Nothing Operation tokens
operation_none_name tokens behind xs h e = left_nothing Operation Called tokens behind (λ c. with_outputs xs c) (outputs_left tokens behind xs h) (nothing_joined Declared Called Giving named (λ c back k. (c.called, record { inputs = c.inputs; body = c.body }, refl, k)) behind (name_nothing behind e))

-- ---- inputs
abbrev Enclosed : List RawName → Piece
Enclosed xs = InParentheses (Names xs)

equal_paren : Sign EQUAL ≡ Sign OPEN_PAREN → ⊥
equal_paren e =
    let same : EQUAL ≡ OPEN_PAREN = cc in
    omega (arith, same)

names_to_close : (tokens front rest after : List Token) (x y : RawName) (xs ys : List RawName) (K : Piece) → tokens ≡ front ++ after → Longest Enclosed tokens (x ∷ xs) rest → (Enclosed (y ∷ ys) ⌢ K) front → (back : List Token) × (y ∷ ys ≡ x ∷ xs) × (rest ≡ back ++ after) × K back
names_to_close tokens front rest after x y xs ys K e h k =
    let N : Piece = Names (x ∷ xs) in
    let M : Piece = Names (y ∷ ys) in
    let R : Piece = λ us. us ≡ rest in
    let S : Piece = λ us. us ≡ k.1 ++ after in
    let a = same-token (Sign OPEN_PAREN) (Sign OPEN_PAREN) ((N ⌢ JustSign CLOSE_PAREN) ⌢ R) ((M ⌢ JustSign CLOSE_PAREN) ⌢ S) tokens
    (regrouped (JustSign OPEN_PAREN) (N ⌢ JustSign CLOSE_PAREN) R tokens (h.written, rest, h.splits, h.spelled, refl))
    (regrouped (JustSign OPEN_PAREN) (M ⌢ JustSign CLOSE_PAREN) S tokens (k.0, k.1 ++ after, e ∙ ap (λ us. us ++ after) k.2 ∙ append_assoc k.0 k.1 after, k.3, refl)) in
    let r = names-to CLOSE_PAREN (x ∷ xs) (y ∷ ys) R S a.1.0 refl (regrouped N (JustSign CLOSE_PAREN) R a.1.0 a.1.1) (regrouped M (JustSign CLOSE_PAREN) S a.1.0 a.1.2) in
    (k.1, sym r.0, sym r.1.1 ∙ r.1.2, k.4)

no_body : (tokens front rest after : List Token) (x : RawName) (xs : List RawName) (s : SubTree) → tokens ≡ front ++ after → Longest Enclosed tokens (x ∷ xs) rest → Bodied s front → ⊥
no_body tokens front rest after x xs s e h k =
    let R : Piece = λ us. us ≡ rest in
    let S : Piece = λ us. us ≡ after in
    equal_paren (same-token (Sign EQUAL) (Sign OPEN_PAREN) (Sub false s 1 ⌢ S) ((Names (x ∷ xs) ⌢ JustSign CLOSE_PAREN) ⌢ R) tokens
    (regrouped (JustSign EQUAL) (Sub false s 1) S tokens (front, after, e, k, refl))
    (regrouped (JustSign OPEN_PAREN) (Names (x ∷ xs) ⌢ JustSign CLOSE_PAREN) R tokens (h.written, rest, h.splits, h.spelled, refl))).0

paren_there : (tokens front after : List Token) (y : RawName) (ys : List RawName) (K : Piece) → tokens ≡ front ++ after → NotAhead (Sign OPEN_PAREN) tokens → (Enclosed (y ∷ ys) ⌢ K) front → ⊥
paren_there tokens front after y ys K e n k =
    let f = first (Sign OPEN_PAREN) ((Names (y ∷ ys) ⌢ JustSign CLOSE_PAREN) ⌢ K) front (regrouped (JustSign OPEN_PAREN) (Names (y ∷ ys) ⌢ JustSign CLOSE_PAREN) K front k) in
    n f.token (f.rest ++ after) (e ∙ ap (λ us. us ++ after) f.is) f.same

inputs_apart : (tokens rest : List Token) (xs : List RawName) → IsInputs tokens xs rest → (ys : List RawName) (s : SubTree) (front after : List Token) → tokens ≡ front ++ after → (Inputs ys ⌢ Bodied s) front → (back : List Token) × (ys ≡ xs) × (rest ≡ back ++ after) × Bodied s back
inputs_apart tokens rest [] h [] s front after e k = (front, refl, h.0 ∙ e, absent-then (Bodied s) front k)
inputs_apart tokens rest [] h (y ∷ ys) s front after e k = absurd (paren_there tokens front after y ys (Bodied s) e h.1 k)
inputs_apart tokens rest (x ∷ xs) h [] s front after e k = absurd (no_body tokens front rest after x xs s e h (absent-then (Bodied s) front k))
inputs_apart tokens rest (x ∷ xs) h (y ∷ ys) s front after e k = names_to_close tokens front rest after x y xs ys (Bodied s) e h k

inputs_only : (tokens rest : List Token) (xs : List RawName) → IsInputs tokens xs rest → (g : Given) (front after : List Token) → tokens ≡ front ++ after → Giving g front → (s : SubTree) × (back : List Token) × (g ≡ given xs s) × (rest ≡ back ++ after) × Bodied s back
inputs_only tokens rest xs h g front after e k =
    let a = inputs_apart tokens rest xs h g.inputs g.body front after e k in
    (g.body, a.0, ap (λ ys. given ys g.body) a.1, a.2, a.3)

inputs_left : (tokens rest : List Token) (xs : List RawName) → IsInputs tokens xs rest → Left Giving tokens Bodied rest (λ s. given xs s)
inputs_left tokens rest [] h = record {
  before = [];
  splits = sym h.0;
  into = λ s back k. ([], back, refl, refl, k);
  only = inputs_only tokens rest [] h;
}
inputs_left tokens rest (x ∷ xs) h = record {
  before = h.written;
  splits = h.splits;
  into = λ s back k. (h.written, back, refl, h.spelled, k);
  only = inputs_only tokens rest (x ∷ xs) h;
}

no_giving : (tokens : List Token) → HasNoInputs tokens → (ys : List RawName) (s : SubTree) (front after : List Token) → tokens ≡ front ++ after → (Inputs ys ⌢ Bodied s) front → ⊥
no_giving tokens h [] s front after e k =
    let f = first (Sign EQUAL) (Sub false s 1) front (absent-then (Bodied s) front k) in
    h.0 (none_ahead (Sign OPEN_PAREN) tokens (f.rest ++ after) f.token (e ∙ ap (λ us. us ++ after) f.is) (λ i. equal_paren (sym f.same ∙ i)))
no_giving tokens h (y ∷ ys) s front after e k = h.1 (y ∷ ys) k.0 (k.1 ++ after) (e ∙ ap (λ us. us ++ after) k.2 ∙ append_assoc k.0 k.1 after) k.3

pub operation_none_inputs : (tokens behind ts : List Token) (xs : List RawName) (x : RawName) → IsOutputs tokens xs behind → name behind ≡ Some (x, ts) → HasNoInputs ts → Nothing Operation tokens
operation_none_inputs tokens behind ts xs x h e n = left_nothing Operation Giving tokens ts (λ g. with_outputs xs (named x g)) (name_left tokens behind ts xs x h e) (λ g front after f k. no_giving ts n g.inputs g.body front after f k)

pub title_left : (tokens behind ts rest : List Token) (xs ys : List RawName) (x : RawName) → IsOutputs tokens xs behind → name behind ≡ Some (x, ts) → IsInputs ts ys rest → Left Operation tokens Bodied rest (λ s. record { outputs = xs; name = x; inputs = ys; body = s })
title_left tokens behind ts rest xs ys x h e i = left_left Operation Giving Bodied tokens ts rest (λ g. with_outputs xs (named x g)) (λ s. given ys s) (name_left tokens behind ts xs x h e) (inputs_left ts rest ys i)

-- the answers of inputs
pub inputs_none : (tokens : List Token) (xs : List RawName) → NotAhead (Sign OPEN_PAREN) tokens → xs ≡ [] → IsInputs tokens xs tokens
inputs_none tokens xs n e = subst (λ ys. IsInputs tokens ys tokens) (sym e) (refl, n)

inputs_written : (tokens rest : List Token) (xs : List RawName) → Longest Enclosed tokens xs rest → IsInputs tokens xs rest
inputs_written tokens rest [] h = absurd h.spelled.4.3
inputs_written tokens rest (x ∷ xs) h = h

pub inputs_found : (tokens inside behind rest : List Token) (xs : List RawName) → Ahead (Sign OPEN_PAREN) tokens inside → Longest Names inside xs behind → Ahead (Sign CLOSE_PAREN) behind rest → IsInputs tokens xs rest
inputs_found tokens inside behind rest xs a h c = inputs_written tokens rest xs (between_found OPEN_PAREN CLOSE_PAREN refl tokens inside behind rest xs a h c)

pub inputs_fail : (tokens inside : List Token) → Ahead (Sign OPEN_PAREN) tokens inside → Nothing (Between OPEN_PAREN CLOSE_PAREN) tokens → HasNoInputs tokens
inputs_fail tokens inside a n = (λ m. m a.0 inside a.1 a.2, n)

-- ---- the body
operation_behind : (tokens ts more : List Token) (make : SubTree → RawOperation) → Left Operation tokens Bodied ts make → Ahead (Sign EQUAL) ts more → Left Operation tokens (λ (s : SubTree). Sub false s 1) more make
operation_behind tokens ts more make l a = left_ahead Operation (Sign EQUAL) (λ (s : SubTree). Sub false s 1) tokens ts more make l a

pub operation_found : (tokens ts more rest : List Token) (make : SubTree → RawOperation) (s : SubTree) → Left Operation tokens Bodied ts make → Ahead (Sign EQUAL) ts more → Longest (λ (s : SubTree). Sub false s 1) more s rest → Longest Operation tokens (make s) rest
operation_found tokens ts more rest make s l a h = left_longest Operation (λ (s : SubTree). Sub false s 1) tokens more rest make s (operation_behind tokens ts more make l a) h

pub operation_none_sign : (tokens ts : List Token) (make : SubTree → RawOperation) → Left Operation tokens Bodied ts make → NotAhead (Sign EQUAL) ts → Nothing Operation tokens
operation_none_sign tokens ts make l n = left_nothing Operation Bodied tokens ts make l (nothing_begins (Sign EQUAL) (λ (s : SubTree). Sub false s 1) ts n)

pub operation_none_body : (tokens ts more : List Token) (make : SubTree → RawOperation) → Left Operation tokens Bodied ts make → Ahead (Sign EQUAL) ts more → Nothing (λ (s : SubTree). Sub false s 1) more → Nothing Operation tokens
operation_none_body tokens ts more make l a n = left_nothing Operation (λ (s : SubTree). Sub false s 1) tokens more make (operation_behind tokens ts more make l a) n
