-- Calls of operations, and atoms that begin with a name where operations may be called.
use Rattle.std.specs.Prelude.{◌≡◌, ◌⊎◌, ◌≤◌, ℕ, Bool, true, false, nat_eq, List, [], ◌∷◌, ◌++◌, length, refl}
use Rattle.std.proofs.Common.{inl, inr, arith, sym, ◌∙◌, ap, subst, append_assoc, length-append}
use Rattle.bk_form.specs.declared.token.Token.{Token}
use Rattle.bk_form.specs.declared.token.TokenKind.TheVariants.{Name, Sign}
use Rattle.bk_ops.specs.declared.sign.TheConstants.{ASSIGN, OPEN_PAREN, CLOSE_PAREN, OUTPUTS, COMMA}
use Rattle.bk_ops.specs.declared.word.TheConstants.{END, BEGIN, PRE, THEN, IF, ELSIF, SELECT, WHEN, CHOICE, ANY, WHERE, LET, BE, IN, VAR, WHILE, DO, INVARIANT, VARIANT, ASSERT}
use Rattle.bk_raw.specs.Grammar.Pieces.{JustSign, JustWord, ◌⌢◌}
use Rattle.bk_raw.specs.Grammar.Reading.{start}
use Rattle.bk_raw.specs.Grammar.Spelling.{Declared, Names, Spells, Term, Terms}
use Rattle.bk_raw.specs.Trees.RawTree.{RawTree, RawTrees, no_trees, tree_and}
use Rattle.bk_raw.specs.declared.term.RawName.{RawName}
use Rattle.bk_raw.specs.Trees.SubTree.{SubTree, sub, SubNode, sub_skip, sub_assign, sub_assign_at, sub_member, sub_such, sub_call, sub_begin, sub_pre, sub_assert, sub_if, sub_choice, sub_select, sub_any, sub_let, sub_var, sub_while, sub_parallel, sub_sequence}
use Rattle.bk_raw.specs.Grammar.SubSpelling.{Applied, Sub, Stated, Branched, Chosen}
use Rattle.bk_raw.proofs.Shapes.{regrouped}
use Rattle.bk_raw.proofs.Steps.{Piece, leads-fewer}
use Rattle.bk_raw.proofs.TermRuns.{ends_term, ends_terms, ends_names, fewer-terms, all-names, all-terms, term}
use Rattle.bk_raw.proofs.Patterns.{first, same-token, same-piece, stops-just}
use Rattle.bk_raw.proofs.SubParts.{tag}
use Rattle.bk_raw.proofs.SubLeads.{lead, lead-behind}
use Rattle.bk_raw.proofs.SubOne.{one-names, one-terms, names-cut, no-outputs-tag}
use Rattle.bk_p_expr.specs.Fronts.{Longest, Nothing}
use Rattle.bk_p_sub.specs.Longest.{Left}
use Rattle.bk_p_sub.specs.Found.{Application, Arguments, Call, CallWithOutputs, Atom, Ahead, NotAhead, BeginsWithName}
use Rattle.bk_p_sub.proofs.Steps.{stops_on_just, stops_on_last, left_whole, left_part, left_nothing, left_longest, longest_token, nothing_begins}
use Rattle.bk_p_sub.proofs.Atoms.{atom_there, starting_atom, false_callless}
use Rattle.bk_p_sub.proofs.Targets.{left_ahead, not_word}

-- ---- terms in parentheses
inside_left : (tokens inside : List Token) → Ahead (Sign OPEN_PAREN) tokens inside → Left Arguments tokens (λ (us : RawTrees). Terms us ⌢ JustSign CLOSE_PAREN) inside (λ us. us)
inside_left tokens inside a = left_ahead Arguments (Sign OPEN_PAREN) (λ (us : RawTrees). Terms us ⌢ JustSign CLOSE_PAREN) tokens tokens inside (λ us. us) (left_whole Arguments tokens) a

behind_left : (tokens inside behind : List Token) (us : RawTrees) → Ahead (Sign OPEN_PAREN) tokens inside → Longest Terms inside us behind → Left Arguments tokens (λ (_ : Unit {0}). JustSign CLOSE_PAREN) behind (λ _. us)
behind_left tokens inside behind us a h = left_part Arguments Terms (λ (us : RawTrees). Terms us ⌢ JustSign CLOSE_PAREN) (λ (_ : Unit {0}). JustSign CLOSE_PAREN) (λ x y. x) ends_terms all-terms one-terms (stops_on_last ends_terms (Sign CLOSE_PAREN) refl) (λ z back k. (z, tt, refl, k)) (λ x y back k. k) tokens inside behind (λ us. us) us (inside_left tokens inside a) h

pub arguments_found : (tokens inside behind rest : List Token) (us : RawTrees) → Ahead (Sign OPEN_PAREN) tokens inside → Longest Terms inside us behind → Ahead (Sign CLOSE_PAREN) behind rest → Longest Arguments tokens us rest
arguments_found tokens inside behind rest us a h c =
    left_longest Arguments (λ (_ : Unit {0}). JustSign CLOSE_PAREN) tokens behind rest (λ _. us) tt (behind_left tokens inside behind us a h)
    (subst (λ ts. Longest (λ (_ : Unit {0}). JustSign CLOSE_PAREN) ts tt rest) (sym c.1) (longest_token (Sign CLOSE_PAREN) c.0 rest c.2))

pub arguments_none_last : (tokens inside behind : List Token) (us : RawTrees) → Ahead (Sign OPEN_PAREN) tokens inside → Longest Terms inside us behind → NotAhead (Sign CLOSE_PAREN) behind → Nothing Arguments tokens
arguments_none_last tokens inside behind us a h n = left_nothing Arguments (λ (_ : Unit {0}). JustSign CLOSE_PAREN) tokens behind (λ _. us) (behind_left tokens inside behind us a h) (λ _ front after e k. n k.0 after (e ∙ ap (λ ts. ts ++ after) k.1) k.2)

pub arguments_none_inside : (tokens inside : List Token) → Ahead (Sign OPEN_PAREN) tokens inside → Nothing Terms inside → Nothing Arguments tokens
arguments_none_inside tokens inside a n = left_nothing Arguments (λ (us : RawTrees). Terms us ⌢ JustSign CLOSE_PAREN) tokens inside (λ us. us) (inside_left tokens inside a) (λ us front after e k. n us k.0 (k.1 ++ after) (e ∙ ap (λ ts. ts ++ after) k.2 ∙ append_assoc k.0 k.1 after) k.3)

pub arguments_none : (tokens : List Token) → NotAhead (Sign OPEN_PAREN) tokens → Nothing Arguments tokens
arguments_none tokens n = nothing_begins (Sign OPEN_PAREN) (λ (us : RawTrees). Terms us ⌢ JustSign CLOSE_PAREN) tokens n

-- ---- an operation and its arguments
-- what stands behind a name is one list
declared_behind : (tokens behind front after : List Token) (o p : RawName) → Longest Declared tokens o behind → tokens ≡ front ++ after → Declared p front → behind ≡ after
declared_behind tokens behind front after o p h e d =
    let w = h.spelled in
    let both : w.0 ∷ behind ≡ d.0 ∷ after = ap (λ ts. ts ++ behind) (sym w.1) ∙ sym h.splits ∙ e ∙ ap (λ ts. ts ++ after) d.1 in
    let same : behind ≡ after = cc in
    same

applied_there : (o : RawName) (us : RawTrees) (a b : List Token) → Declared o a → Arguments us b → Applied o us (a ++ b)
applied_there o no_trees a b d w = absurd w.4.3
applied_there o (tree_and t us) a b d w = (a, b, refl, d, w)

pub application_found : (tokens behind rest : List Token) (o : RawName) (us : RawTrees) → Longest Declared tokens o behind → Longest Arguments behind us rest → Longest Application tokens (o, us) rest
application_found tokens behind rest o us h k = record {
  written = h.written ++ k.written;
  splits = h.splits ∙ ap (λ ts. h.written ++ ts) k.splits ∙ sym (append_assoc h.written k.written rest);
  spelled = applied_there o us h.written k.written h.spelled k.spelled;
  longest = longer;
}
  where
    longer : (q : RawName × RawTrees) (front after : List Token) → tokens ≡ front ++ after → Application q front → length rest ≤ length after
    longer (p, no_trees) front after e d = omega (arith, ap length (declared_behind tokens behind front after o p h e d), ap length k.splits, length-append k.written rest)
    longer (p, tree_and v vs) front after e w = k.longest (tree_and v vs) w.1 after (declared_behind tokens behind w.0 (w.1 ++ after) o p h (e ∙ ap (λ ts. ts ++ after) w.2 ∙ append_assoc w.0 w.1 after) w.3) w.4

pub application_alone : (tokens behind : List Token) (o : RawName) → Longest Declared tokens o behind → Nothing Arguments behind → Longest Application tokens (o, no_trees) behind
application_alone tokens behind o h n = record { written = h.written; splits = h.splits; spelled = h.spelled; longest = longer }
  where
    longer : (q : RawName × RawTrees) (front after : List Token) → tokens ≡ front ++ after → Application q front → length behind ≤ length after
    longer (p, no_trees) front after e d = omega (arith, ap length (declared_behind tokens behind front after o p h e d))
    longer (p, tree_and v vs) front after e w = absurd (n (tree_and v vs) w.1 after (declared_behind tokens behind w.0 (w.1 ++ after) o p h (e ∙ ap (λ ts. ts ++ after) w.2 ∙ append_assoc w.0 w.1 after) w.3) w.4)

pub application_none : (tokens : List Token) → Nothing Declared tokens → Nothing Application tokens
application_none tokens n (p, no_trees) front after e d = n p front after e d
application_none tokens n (p, tree_and v vs) front after e w = n p w.0 (w.1 ++ after) (e ∙ ap (λ ts. ts ++ after) w.2 ∙ append_assoc w.0 w.1 after) w.3

-- ---- a call with outputs
behind_names : (tokens rest : List Token) (xs : List RawName) → Longest Names tokens xs rest → Left CallWithOutputs tokens (λ (q : RawName × RawTrees). JustSign OUTPUTS ⌢ Application q) rest (λ q. (xs, q))
behind_names tokens rest xs h = left_part CallWithOutputs Names CallWithOutputs (λ (q : RawName × RawTrees). JustSign OUTPUTS ⌢ Application q) (λ xs q. (xs, q)) ends_names all-names one-names (stops_on_just ends_names (Sign OUTPUTS) Application refl) (λ z back k. (z.0, z.1, refl, k)) (λ x y back k. k) tokens tokens rest (λ z. z) xs (left_whole CallWithOutputs tokens) h

outputs_left : (tokens rest more : List Token) (xs : List RawName) → Longest Names tokens xs rest → Ahead (Sign OUTPUTS) rest more → Left CallWithOutputs tokens Application more (λ q. (xs, q))
outputs_left tokens rest more xs h a = left_ahead CallWithOutputs (Sign OUTPUTS) Application tokens rest more (λ q. (xs, q)) (behind_names tokens rest xs h) a

pub with_outputs_found : (tokens rest more after : List Token) (xs : List RawName) (q : RawName × RawTrees) → Longest Names tokens xs rest → Ahead (Sign OUTPUTS) rest more → Longest Application more q after → Longest CallWithOutputs tokens (xs, q) after
with_outputs_found tokens rest more after xs q h a k = left_longest CallWithOutputs Application tokens more after (λ q. (xs, q)) q (outputs_left tokens rest more xs h a) k

pub with_outputs_none_inside : (tokens rest more : List Token) (xs : List RawName) → Longest Names tokens xs rest → Ahead (Sign OUTPUTS) rest more → Nothing Application more → Nothing CallWithOutputs tokens
with_outputs_none_inside tokens rest more xs h a n = left_nothing CallWithOutputs Application tokens more (λ q. (xs, q)) (outputs_left tokens rest more xs h a) n

pub with_outputs_none_sign : (tokens rest : List Token) (xs : List RawName) → Longest Names tokens xs rest → NotAhead (Sign OUTPUTS) rest → Nothing CallWithOutputs tokens
with_outputs_none_sign tokens rest xs h n = left_nothing CallWithOutputs (λ (q : RawName × RawTrees). JustSign OUTPUTS ⌢ Application q) tokens rest (λ q. (xs, q)) (behind_names tokens rest xs h) (nothing_begins (Sign OUTPUTS) Application rest n)

pub with_outputs_none : (tokens : List Token) → Nothing Names tokens → Nothing CallWithOutputs tokens
with_outputs_none tokens n q front after e w = n q.0 w.0 (w.1 ++ after) (e ∙ ap (λ ts. ts ++ after) w.2 ∙ append_assoc w.0 w.1 after) w.3

-- ---- a call
-- the sign behind names in front of tokens
lead_there : (xs : List RawName) (op : ℕ) (K : Piece) (tokens front after : List Token) → nat_eq op COMMA ≡ false → tokens ≡ front ++ after → (Names xs ⌢ JustSign op ⌢ K) front → lead tokens ≡ op
lead_there xs op K tokens front after c e w =
    let f = first (Sign op) K w.1 w.4 in
    lead-behind xs op (λ ts. ts ≡ f.rest ++ after) tokens c (w.0, w.1 ++ after, e ∙ ap (λ ts. ts ++ after) w.2 ∙ append_assoc w.0 w.1 after, w.3, (f.token ∷ [], f.rest ++ after, ap (λ ts. ts ++ after) f.is, (f.token, refl, f.same), refl))

applied_lead : (o : RawName) (t : RawTree) (us : RawTrees) (tokens front after : List Token) → tokens ≡ front ++ after → Applied o (tree_and t us) front → lead tokens ≡ OPEN_PAREN
applied_lead o t us tokens front after e w = lead_there (o ∷ []) OPEN_PAREN (Terms (tree_and t us) ⌢ JustSign CLOSE_PAREN) tokens front after refl e w

with_outputs_there : (xs : List RawName) (r : RawName × RawTrees) (ts : List Token) → CallWithOutputs (xs, r) ts → Call (xs, r) ts
with_outputs_there [] r ts w = absurd w.3
with_outputs_there (x ∷ xs) r ts w = w

-- one token is no longer than a call with outputs
outputs_longer : (q : List RawName × (RawName × RawTrees)) (ts : List Token) → CallWithOutputs q ts → 1 ≤ length ts
outputs_longer q ts w =
    let f = first (Sign OUTPUTS) (Application q.1) w.1 w.4 in
    omega (arith, ap length w.2, length-append w.0 w.1, ap length f.is)

pub call_with_outputs : (tokens rest : List Token) (q : List RawName × (RawName × RawTrees)) → Longest CallWithOutputs tokens q rest → Longest Call tokens q rest
call_with_outputs tokens rest q h = record { written = h.written; splits = h.splits; spelled = with_outputs_there q.0 q.1 h.written h.spelled; longest = longer }
  where
    led : lead tokens ≡ OUTPUTS
    led = lead_there q.0 OUTPUTS (Application q.1) tokens h.written rest refl h.splits h.spelled

    longer : (r : List RawName × (RawName × RawTrees)) (front after : List Token) → tokens ≡ front ++ after → Call r front → length rest ≤ length after
    longer ([], (p, no_trees)) front after e d = omega (arith, outputs_longer q h.written h.spelled, ap length h.splits, length-append h.written rest, ap length e, length-append front after, ap length d.1)
    longer ([], (p, tree_and v vs)) front after e w = absurd (omega (arith, led, applied_lead p v vs tokens front after e w))
    longer (y ∷ ys, r) front after e w = h.longest (y ∷ ys, r) front after e w

pub call_without : (tokens rest : List Token) (q : RawName × RawTrees) → Nothing CallWithOutputs tokens → Longest Application tokens q rest → Longest Call tokens ([], q) rest
call_without tokens rest q n h = record { written = h.written; splits = h.splits; spelled = h.spelled; longest = longer }
  where
    longer : (r : List RawName × (RawName × RawTrees)) (front after : List Token) → tokens ≡ front ++ after → Call r front → length rest ≤ length after
    longer ([], r) front after e w = h.longest r front after e w
    longer (y ∷ ys, r) front after e w = absurd (n (y ∷ ys, r) front after e w)

pub call_none : (tokens : List Token) → Nothing CallWithOutputs tokens → Nothing Application tokens → Nothing Call tokens
call_none tokens n m ([], r) front after e w = m r front after e w
call_none tokens n m (y ∷ ys, r) front after e w = n (y ∷ ys, r) front after e w

-- ---- atoms that begin with a name
abbrev CallOf : SubNode → List Token → Type 0
CallOf u ts = (q : List RawName × (RawName × RawTrees)) × (u ≡ sub_call q.0 q.1.0 q.1.1) × Call q ts

-- a call, or an atom in which no other one stands: whether operations may be called does not matter to it
by_node : (c d : Bool) (u : SubNode) (t : Token) (us : List Token) (x : List ℕ) → t.kind ≡ Name x → Stated c u 2 (t ∷ us) → CallOf u (t ∷ us) ⊎ Stated d u 2 (t ∷ us)
by_node c d sub_skip t us x k h = inr h
by_node c d (sub_assign xs ts) t us x k h = inr h
by_node c d (sub_assign_at f y e) t us x k h = inr h
by_node c d (sub_member y e) t us x k h = inr h
by_node c d (sub_such xs p) t us x k h = inr h
by_node c d (sub_call xs o ts) t us x k h = inl ((xs, (o, ts)), refl, h.0)
by_node c d (sub_begin s) t us x k h = absurd (not_word BEGIN (Sub c s 0 ⌢ JustWord END) t us x k h)
by_node c d (sub_pre p s) t us x k h = absurd (not_word PRE (Spells p ⌢ JustWord THEN ⌢ Sub c s 0 ⌢ JustWord END) t us x k h)
by_node c d (sub_assert p s) t us x k h = absurd (not_word ASSERT (Spells p ⌢ JustWord THEN ⌢ Sub c s 0 ⌢ JustWord END) t us x k h)
by_node c d (sub_if p s bs) t us x k h = absurd (not_word IF (Spells p ⌢ JustWord THEN ⌢ (Sub c s 0 ⌢ Branched c ELSIF bs) ⌢ JustWord END) t us x k h)
by_node c d (sub_choice s cs) t us x k h = absurd (not_word CHOICE ((Sub c s 0 ⌢ Chosen c cs) ⌢ JustWord END) t us x k h)
by_node c d (sub_select p s bs) t us x k h = absurd (not_word SELECT (Spells p ⌢ JustWord THEN ⌢ (Sub c s 0 ⌢ Branched c WHEN bs) ⌢ JustWord END) t us x k h)
by_node c d (sub_any xs p s) t us x k h = absurd (not_word ANY (Names xs ⌢ JustWord WHERE ⌢ Spells p ⌢ JustWord THEN ⌢ Sub c s 0 ⌢ JustWord END) t us x k h)
by_node c d (sub_let xs p s) t us x k h = absurd (not_word LET (Names xs ⌢ JustWord BE ⌢ Spells p ⌢ JustWord IN ⌢ Sub c s 0 ⌢ JustWord END) t us x k h.0)
by_node c d (sub_var xs s) t us x k h = absurd (not_word VAR (Names xs ⌢ JustWord IN ⌢ Sub c s 0 ⌢ JustWord END) t us x k h)
by_node c d (sub_while p s i v) t us x k h = absurd (not_word WHILE (Spells p ⌢ JustWord DO ⌢ Sub c s 0 ⌢ JustWord INVARIANT ⌢ Spells i ⌢ JustWord VARIANT ⌢ Spells v ⌢ JustWord END) t us x k h)
by_node c d (sub_parallel s r) t us x k h = absurd (omega (arith, h.0))
by_node c d (sub_sequence s r) t us x k h = absurd (omega (arith, h.0))

abbrev CallThere : SubTree → List Token → Type 0
CallThere (sub at u) ts = CallOf u ts

name_atom : (c d : Bool) (tokens : List Token) (o : SubTree) (front after : List Token) → BeginsWithName tokens → tokens ≡ front ++ after → Atom c o front → CallThere o front ⊎ Atom d o front
name_atom c d tokens (sub at u) front after b e k = by (by_node c d u k.0 k.1 b.0 begun (subst (Stated c u 2) k.2 k.4))
  where
    begun : k.0.kind ≡ Name b.0
    begun =
        let both : b.2.0 ∷ b.1 ≡ k.0 ∷ (k.1 ++ after) = sym b.2.1 ∙ e ∙ ap (λ ts. ts ++ after) k.2 in
        let same : b.2.0 ≡ k.0 = cc in
        sym (ap (λ t. t.kind) same) ∙ b.2.2

    by : CallOf u (k.0 ∷ k.1) ⊎ Stated d u 2 (k.0 ∷ k.1) → CallOf u front ⊎ Atom d (sub at u) front
    by (inl c) = inl (c.0, c.1, subst (Call c.0) (sym k.2) c.2)
    by (inr s) = inr (k.0, k.1, k.2, k.3, subst (Stated d u 2) (sym k.2) s)

-- these tokens stand behind
abbrev Are : List Token → Piece
Are us ts = ts ≡ us

-- op(e, f) in front of f(x) := e is the shorter one
place_longer : (tokens front after written rest : List Token) (o : RawName) (t : RawTree) (us : RawTrees) (f : RawName) (x : RawTree) (E : Piece) → tokens ≡ front ++ after → Applied o (tree_and t us) front → tokens ≡ written ++ rest → (Declared f ⌢ JustSign OPEN_PAREN ⌢ Term x 0 ⌢ JustSign CLOSE_PAREN ⌢ JustSign ASSIGN ⌢ E) written → length rest ≤ length after
place_longer tokens front after written rest o t us f x E e h g k =
    let A = Terms (tree_and t us) ⌢ JustSign CLOSE_PAREN in
    let C = JustSign ASSIGN ⌢ E in
    let B = Term x 0 ⌢ JustSign CLOSE_PAREN ⌢ C in
    let a = regrouped (Declared o) (JustSign OPEN_PAREN ⌢ A) (Are after) tokens (front, after, e, h, refl) in
    let b = regrouped (Declared f) (JustSign OPEN_PAREN ⌢ B) (Are rest) tokens (written, rest, g, k, refl) in
    let c = names-cut o f ((JustSign OPEN_PAREN ⌢ A) ⌢ Are after) ((JustSign OPEN_PAREN ⌢ B) ⌢ Are rest) tokens a b in
    let d = same-token (Sign OPEN_PAREN) (Sign OPEN_PAREN) (A ⌢ Are after) (B ⌢ Are rest) c.1.0 (regrouped (JustSign OPEN_PAREN) A (Are after) c.1.0 c.1.1) (regrouped (JustSign OPEN_PAREN) B (Are rest) c.1.0 c.1.2) in
    let s = same-piece ends_terms (0, false) (0, true) (0, true) (Terms (tree_and t us)) (Term x 0) (JustSign CLOSE_PAREN ⌢ Are after) ((JustSign CLOSE_PAREN ⌢ C) ⌢ Are rest) d.1.0 (all-terms (tree_and t us)) (leads-fewer ends_terms ends_term (0, false) (0, true) (Term x 0) fewer-terms (term x 0))
    (stops-just ends_terms 0 true (Sign CLOSE_PAREN) (Are after) refl) (λ ts w. stops-just ends_terms 0 true (Sign CLOSE_PAREN) (C ⌢ Are rest) refl ts (regrouped (JustSign CLOSE_PAREN) C (Are rest) ts w))
    (regrouped (Terms (tree_and t us)) (JustSign CLOSE_PAREN) (Are after) d.1.0 d.1.1) (regrouped (Term x 0) (JustSign CLOSE_PAREN ⌢ C) (Are rest) d.1.0 d.1.2) in
    let m = s.3 in
    let n = same-token (Sign CLOSE_PAREN) (Sign CLOSE_PAREN) (Are after) (C ⌢ Are rest) m.0 m.1 (regrouped (JustSign CLOSE_PAREN) C (Are rest) m.0 m.2) in
    let p = n.1 in
    let q = p.2 in
    omega (arith, ap length p.1, ap length q.2, length-append q.0 q.1, ap length q.4)

-- so is a call before whatever else is read there
call_shorter : (tokens rest : List Token) (s : SubTree) → Longest (Atom false) tokens s rest → (q : List RawName × (RawName × RawTrees)) (front after : List Token) → tokens ≡ front ++ after → Call q front → length rest ≤ length after
call_shorter tokens rest (sub at u) h = shorter
  where
    led : lead tokens ≡ tag u
    led = (atom_there false tokens h.written rest at u (false_callless tokens) h.splits h.spelled).led

    placed : (v : SubNode) → u ≡ v → tag v ≡ OPEN_PAREN → (o : RawName) (t : RawTree) (us : RawTrees) (front after : List Token) → tokens ≡ front ++ after → Applied o (tree_and t us) front → length rest ≤ length after
    placed (sub_assign_at f x e) i g o t us front after k w = place_longer tokens front after h.written rest o t us f x (Term e 0) k w h.splits (subst (λ v. Stated false v 2 h.written) i h.spelled.4)
    placed sub_skip i g o t us front after k w = absurd (omega (arith, g))
    placed _ i g o t us front after k w = absurd (omega (arith, g))

    shorter : (q : List RawName × (RawName × RawTrees)) (front after : List Token) → tokens ≡ front ++ after → Call q front → length rest ≤ length after
    shorter ([], (o, no_trees)) front after e d = omega (arith, ap length h.spelled.2, ap length h.splits, length-append h.written rest, ap length e, length-append front after, ap length d.1)
    shorter ([], (o, tree_and t us)) front after e w = placed u refl (sym led ∙ applied_lead o t us tokens front after e w) o t us front after e w
    shorter (x ∷ xs, (o, us)) front after e w = absurd (no-outputs-tag u (sym led ∙ lead_there (x ∷ xs) OUTPUTS (Applied o us) tokens front after refl e w))

-- what is written to names is the longest also where operations may be called
pub written_longest : (calls : Bool) (tokens rest : List Token) (s : SubTree) → BeginsWithName tokens → Longest (Atom false) tokens s rest → Longest (Atom calls) tokens s rest
written_longest calls tokens rest s b h = record { written = h.written; splits = h.splits; spelled = kept (name_atom false calls tokens s h.written rest b h.splits h.spelled); longest = longer }
  where
    none : (o : SubTree) (ts : List Token) → Atom false o ts → CallThere o ts → ⊥
    none (sub at u) ts k c = let i : false ≡ true = (subst (λ v. Stated false v 2 ts) c.1 k.4).1 in cc

    kept : CallThere s h.written ⊎ Atom calls s h.written → Atom calls s h.written
    kept (inl c) = absurd (none s h.written h.spelled c)
    kept (inr a) = a

    call_there : (o : SubTree) (front after : List Token) → tokens ≡ front ++ after → CallThere o front → length rest ≤ length after
    call_there (sub at u) front after e c = call_shorter tokens rest s h c.0 front after e c.2

    longer : (o : SubTree) (front after : List Token) → tokens ≡ front ++ after → Atom calls o front → length rest ≤ length after
    longer o front after e k = elim (name_atom calls false tokens o front after b e k) [
      | inl c ↦ call_there o front after e c
      | inr a ↦ h.longest o front after e a
    ]

-- a call is the longest where nothing else is
pub call_longest : (tokens rest : List Token) (q : List RawName × (RawName × RawTrees)) → BeginsWithName tokens → Nothing (Atom false) tokens → Longest Call tokens q rest → Longest (Atom true) tokens (sub (start tokens) (sub_call q.0 q.1.0 q.1.1)) rest
call_longest tokens rest q b n h = record { written = h.written; splits = h.splits; spelled = starting_atom true tokens h.written rest (sub_call q.0 q.1.0 q.1.1) h.splits (h.spelled, refl); longest = longer }
  where
    call_there : (o : SubTree) (front after : List Token) → tokens ≡ front ++ after → CallThere o front → length rest ≤ length after
    call_there (sub at u) front after e c = h.longest c.0 front after e c.2

    longer : (o : SubTree) (front after : List Token) → tokens ≡ front ++ after → Atom true o front → length rest ≤ length after
    longer o front after e k = elim (name_atom true false tokens o front after b e k) [
      | inl c ↦ call_there o front after e c
      | inr a ↦ absurd (n o front after e a)
    ]

pub nothing_named : (tokens : List Token) → BeginsWithName tokens → Nothing (Atom false) tokens → Nothing Call tokens → Nothing (Atom true) tokens
nothing_named tokens b n m o front after e k = elim (name_atom true false tokens o front after b e k) [
  | inl c ↦ call_there o c
  | inr a ↦ n o front after e a
]
  where
    call_there : (o : SubTree) → CallThere o front → ⊥
    call_there (sub at u) c = m c.0 front after e c.2
