-- Atoms: the first sign or word behind names tells the shape that is read.
use Rattle.std.specs.Prelude.{◌≡◌, ℕ, suc, ◌≤◌, Bool, true, false, nat_eq, List, [], ◌∷◌, ◌++◌, length, refl}
use Rattle.std.proofs.Common.{inl, inr, arith, sym, ◌∙◌, ap, subst, append_assoc}
use Rattle.std.proofs.lemmas.Bool.{cases_Bool, cond-true, cond-false}
use Rattle.bk_form.specs.declared.token.Token.{Token}
use Rattle.bk_form.specs.declared.token.TokenKind.{TokenKind}
use Rattle.bk_form.specs.declared.token.TokenKind.TheVariants.{Name, LevelName, BoundName, Number, Sign, Word}
use Rattle.bk_ops.specs.declared.sign.TheConstants.{COMMA}
use Rattle.bk_raw.specs.Grammar.Reading.{start}
use Rattle.bk_raw.specs.Trees.SubTree.{SubTree, sub, SubNode, sub_call}
use Rattle.bk_raw.specs.Trees.RawTree.{RawTrees, no_trees, tree_and}
use Rattle.bk_raw.specs.declared.term.RawName.{RawName}
use Rattle.bk_raw.specs.Grammar.Spelling.{Declared, Names}
use Rattle.bk_raw.specs.Grammar.SubSpelling.{Called, Sub, Stated}
use Rattle.bk_raw.proofs.Steps.{Piece, State}
use Rattle.bk_raw.proofs.Stopping.{some_same}
use Rattle.bk_raw.proofs.Patterns.{Shape, Shaped}
use Rattle.bk_raw.proofs.SubParts.{Part, SubPartKind, Written, shape_at, tag, parts, back}
use Rattle.bk_raw.proofs.SubLeads.{lead, lead_by}
use Rattle.bk_raw.proofs.SubRuns.{node-leads}
use Rattle.bk_raw.proofs.SubOne.{View, view, no-tag}
use Rattle.bk_p_expr.specs.Fronts.{Longest, Nothing}
use Rattle.bk_p_sub.specs.Longest.{Left}
use Rattle.bk_p_sub.specs.Found.{Atom}

-- ---- the number that tells an atom
pub lead_by_front : (kind : TokenKind) (n m : ℕ) → (lead_by kind n ≡ 0 → ⊥) → ((n ≡ 0 → ⊥) → m ≡ n) → lead_by kind m ≡ lead_by kind n
lead_by_front (Name x) n m h f = f h
lead_by_front (LevelName x k) n m h f = refl
lead_by_front (BoundName k) n m h f = refl
lead_by_front (Number z) n m h f = refl
lead_by_front (Word op) n m h f = refl
lead_by_front (Sign op) n m h f = elim (cases_Bool (nat_eq op COMMA)) [
  | inl c ↦ cond-true (nat_eq op COMMA) m op c ∙ f (λ z. h (cond-true (nat_eq op COMMA) n op c ∙ z)) ∙ sym (cond-true (nat_eq op COMMA) n op c)
  | inr c ↦ cond-false (nat_eq op COMMA) m op c ∙ sym (cond-false (nat_eq op COMMA) n op c)
]

pub lead_front : (front after : List Token) → (lead front ≡ 0 → ⊥) → lead (front ++ after) ≡ lead front
lead_front [] after h = absurd (h refl)
lead_front (t ∷ ts) after h = lead_by_front t.kind (lead ts) (lead (ts ++ after)) h (λ k. lead_front ts after k)

-- no call stands in front of these tokens
abbrev pub IsCallless : (calls : Bool) → List Token → Type 0
IsCallless calls tokens = (xs : List RawName) (o : RawName) (us : RawTrees) (front after : List Token) → tokens ≡ front ++ after → Stated calls (sub_call xs o us) 2 front → ⊥

-- where no operation may be called
pub false_callless : (tokens : List Token) → IsCallless false tokens
false_callless tokens xs o us front after e h = let i : false ≡ true = h.1 in cc

-- where a word is in front
word_first : (t : Token) (rest front back : List Token) (op : ℕ) (x : RawName) → t.kind ≡ Word op → t ∷ rest ≡ front ++ back → Declared x front → ⊥
word_first t rest front back op x k e d =
    let both : t ∷ rest ≡ d.0 ∷ back = e ∙ ap (λ us. us ++ back) d.1 in
    let same : t ≡ d.0 = cc in
    let kinds : Word op ≡ Name x.text = sym k ∙ ap (λ u. u.kind) same ∙ d.2 in
    cc

word_names : (t : Token) (rest front back : List Token) (op : ℕ) (xs : List RawName) → t.kind ≡ Word op → t ∷ rest ≡ front ++ back → Names xs front → ⊥
word_names t rest front back op [] k e d = d
word_names t rest front back op (x ∷ []) k e d = word_first t rest front back op x k e d
word_names t rest front back op (x ∷ y ∷ ys) k e d = word_first t rest d.0 (d.1 ++ back) op x k (e ∙ ap (λ us. us ++ back) d.2 ∙ append_assoc d.0 d.1 back) d.3

word_called : (t : Token) (rest front after : List Token) (op : ℕ) (xs : List RawName) (o : RawName) (us : RawTrees) → t.kind ≡ Word op → t ∷ rest ≡ front ++ after → Called xs o us front → ⊥
word_called t rest front after op [] o no_trees k e d = word_first t rest front after op o k e d
word_called t rest front after op [] o (tree_and u us) k e w = word_first t rest w.0 (w.1 ++ after) op o k (e ∙ ap (λ ts. ts ++ after) w.2 ∙ append_assoc w.0 w.1 after) w.3
word_called t rest front after op (x ∷ xs) o us k e w = word_names t rest w.0 (w.1 ++ after) op (x ∷ xs) k (e ∙ ap (λ ts. ts ++ after) w.2 ∙ append_assoc w.0 w.1 after) w.3

pub word_callless : (calls : Bool) (t : Token) (rest : List Token) (op : ℕ) → t.kind ≡ Word op → IsCallless calls (t ∷ rest)
word_callless calls t rest op k xs o us front after e h = word_called t rest front after op xs o us k e h.0

-- what an atom in front of tokens is
pub record AtomThere (calls : Bool) (tokens front : List Token) (at : ℕ) (u : SubNode) : Type 0 where
  pub led : lead tokens ≡ tag u
  pub shaped : Shaped (Written calls) (shape_at (tag u)) (parts u) front
  pub again : back (tag u) (parts u) ≡ u
  pub starts : start tokens ≡ at

there : (calls : Bool) (tokens front after : List Token) (at : ℕ) (u : SubNode) → IsCallless calls tokens → tokens ≡ front ++ after → Sub calls (sub at u) 2 front → View calls u → AtomThere calls tokens front at u
there calls tokens front after at u n e h (inl p) = absurd (omega (arith, (subst (λ x. Stated calls x 2 front) p.2 h.4).0))
there calls tokens front after at u n e h (inr (inl p)) = absurd (omega (arith, (subst (λ x. Stated calls x 2 front) p.2 h.4).0))
there calls tokens front after at u n e h (inr (inr (inl c))) = absurd (n c.0 c.1 c.2 front after e (subst (λ x. Stated calls x 2 front) c.3 h.4))
there calls tokens front after at u n e h (inr (inr (inr a))) =
    let l : lead front ≡ tag u = a.led 2 front h.4 in
    record {
      led = ap lead e ∙ lead_front front after (λ z. no-tag calls u 2 front a h.4 (sym l ∙ z)) ∙ l;
      shaped = a.shaped 2 front h.4;
      again = a.again;
      starts = ap start e ∙ ap (λ us. start (us ++ after)) h.2 ∙ h.3;
    }

pub atom_there : (calls : Bool) (tokens front after : List Token) (at : ℕ) (u : SubNode) → IsCallless calls tokens → tokens ≡ front ++ after → Atom calls (sub at u) front → AtomThere calls tokens front at u
atom_there calls tokens front after at u n e h = there calls tokens front after at u n e h (view calls u)

-- an atom that is stated begins with a token
false_true : false ≡ true → ⊥
false_true e = cc

begins : (calls : Bool) (u : SubNode) (ts : List Token) → Stated calls u 2 ts → (t : Token) × (us : List Token) × (ts ≡ t ∷ us)
begins calls u [] h = absurd (false_true (ap (λ (p : State). p.1) (some_same (0, false) (0, true) (node-leads calls u 2 [] h))))
begins calls u (t ∷ us) h = (t, us, refl)

pub starting_atom : (calls : Bool) (tokens ts after : List Token) (u : SubNode) → tokens ≡ ts ++ after → Stated calls u 2 ts → Atom calls (sub (start tokens) u) ts
starting_atom calls tokens ts after u e h =
    let b = begins calls u ts h in
    (b.0, b.1, b.2, sym (ap start e ∙ ap (λ us. start (us ++ after)) b.2), h)

-- ---- atoms by their shapes
abbrev pub Shapes : (calls : Bool) → ℕ → List Part → Piece
Shapes calls op = Shaped (Written calls) (shape_at op)

abbrev pub ShapeOf : (calls : Bool) → Shape SubPartKind → List Part → Piece
ShapeOf calls shape = Shaped (Written calls) shape

pub shape_nothing : (calls : Bool) (tokens : List Token) (op : ℕ) → IsCallless calls tokens → lead tokens ≡ op → Nothing (Shapes calls op) tokens → Nothing (Atom calls) tokens
shape_nothing calls tokens op c l n (sub at u) front after e h =
    let a = atom_there calls tokens front after at u c e h in
    n (parts u) front after e (subst (λ k. Shapes calls k (parts u) front) (sym a.led ∙ l) a.shaped)

pub shape_longest : (calls : Bool) (tokens rest : List Token) (op : ℕ) (ps : List Part) (u : SubNode) → IsCallless calls tokens → lead tokens ≡ op → Longest (Shapes calls op) tokens ps rest → ((ts : List Token) → Shapes calls op ps ts → Stated calls u 2 ts) → Longest (Atom calls) tokens (sub (start tokens) u) rest
shape_longest calls tokens rest op ps u c l h made = record {
  written = h.written;
  splits = h.splits;
  spelled = starting_atom calls tokens h.written rest u h.splits (made h.written h.spelled);
  longest = longer;
}
  where
    longer : (o : SubTree) (front after : List Token) → tokens ≡ front ++ after → Atom calls o front → length rest ≤ length after
    longer (sub at v) front after e k =
        let a = atom_there calls tokens front after at v c e k in
        h.longest (parts v) front after e (subst (λ n. Shapes calls n (parts v) front) (sym a.led ∙ l) a.shaped)

same_start : (tokens before rest ts : List Token) → tokens ≡ before ++ rest → suc (length rest) ≤ length tokens → start tokens ≡ start (before ++ ts)
same_start tokens [] rest ts e m = absurd (omega (arith, ap length e, m))
same_start tokens (t ∷ before) rest ts e m = ap start e

-- what is still to be read of atoms, where what is behind has another form
pub shape_left : (calls : Bool) {B : Type 0} (tokens rest : List Token) (op : ℕ) (shape : Shape SubPartKind) (make : List Part → List Part) (Behind : B → Piece) (more : B → List Part) (form : B → SubNode) → IsCallless calls tokens → lead tokens ≡ op → suc (length rest) ≤ length tokens → Left (Shapes calls op) tokens (ShapeOf calls shape) rest make → ((y : B) (ts : List Token) → Behind y ts → ShapeOf calls shape (more y) ts) → ((ps : List Part) (ts : List Token) → ShapeOf calls shape ps ts → (y : B) × (ps ≡ more y) × Behind y ts) → ((y : B) (ts : List Token) → Shapes calls op (make (more y)) ts → Stated calls (form y) 2 ts) → ((y : B) → back op (make (more y)) ≡ form y) → Left (Atom calls) tokens Behind rest (λ y. sub (start tokens) (form y))
shape_left calls {B} tokens rest op shape make Behind more form c l m h into out made again = record {
  before = h.before;
  splits = h.splits;
  into = λ y ts k. lengthened y ts k;
  only = only;
}
  where
    lengthened : (y : B) (ts : List Token) → Behind y ts → Atom calls (sub (start tokens) (form y)) (h.before ++ ts)
    lengthened y ts k =
        let s : Stated calls (form y) 2 (h.before ++ ts) = made y (h.before ++ ts) (h.into (more y) ts (into y ts k)) in
        let b = begins calls (form y) (h.before ++ ts) s in
        (b.0, b.1, b.2, sym (ap start b.2) ∙ sym (same_start tokens h.before rest ts h.splits m), s)

    only : (o : SubTree) (front after : List Token) → tokens ≡ front ++ after → Atom calls o front → (y : B) × (ts : List Token) × (o ≡ sub (start tokens) (form y)) × (rest ≡ ts ++ after) × Behind y ts
    only (sub at u) front after e k =
        let a = atom_there calls tokens front after at u c e k in
        let same = sym a.led ∙ l in
        let o = h.only (parts u) front after e (subst (λ n. Shapes calls n (parts u) front) same a.shaped) in
        let q = out o.0 o.1 o.4 in
        let node : u ≡ form q.0 = sym a.again ∙ (λ i. back (same i) ((o.2 ∙ ap make q.1) i)) ∙ again q.0 in
        (q.0, o.1, (λ i. sub (sym a.starts i) (node i)), o.3, q.2)
