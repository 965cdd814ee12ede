-- Which tokens an atom may begin with.
use Rattle.std.specs.Prelude.{◌≡◌, ◌≢◌, ℕ, Bool, true, false, nat_eq, ◌||◌, List, [], ◌∷◌, ◌++◌, refl}
use Rattle.std.proofs.Common.{arith, inl, inr, sym, ◌∙◌, ap, subst, append_assoc, append-nil}
use Rattle.std.proofs.lemmas.Bool.{cases_Bool, eqb-true}
use Rattle.bk_form.specs.declared.token.Token.{Token}
use Rattle.bk_form.specs.declared.token.TokenKind.{TokenKind}
use Rattle.bk_form.specs.declared.token.TokenKind.TheVariants.{Name, LevelName, BoundName, Number, Sign, Word}
use Rattle.bk_ops.specs.declared.word.TheConstants.{END, BEGIN, PRE, THEN, IF, ELSIF, SELECT, WHEN, CHOICE, ANY, WHERE, LET, BE, IN, VAR, WHILE, DO, INVARIANT, VARIANT, ASSERT, SKIP}
use Rattle.bk_raw.specs.Grammar.Pieces.{JustWord, ◌⌢◌}
use Rattle.bk_raw.specs.Grammar.Spelling.{Declared, Names, Spells}
use Rattle.bk_raw.specs.declared.term.RawName.{RawName}
use Rattle.bk_raw.specs.Trees.RawTree.{RawTrees, no_trees, tree_and}
use Rattle.bk_raw.specs.Trees.SubTree.{sub, SubNode, sub_skip, sub_assign, sub_assign_at, sub_member, sub_such, sub_call, sub_begin, sub_pre, sub_assert, sub_if, sub_choice, sub_select, sub_any, sub_let, sub_var, sub_while, sub_parallel, sub_sequence}
use Rattle.bk_raw.specs.Grammar.SubSpelling.{Called, Sub, Stated, Branched, Chosen}
use Rattle.bk_raw.proofs.Steps.{Piece}
use Rattle.bk_raw.proofs.Patterns.{first, last}
use Rattle.bk_p_expr.specs.Fronts.{Nothing}
use Rattle.bk_p_sub.specs.Found.{Atom, guard_kind}
use Rattle.bk_p_sub.specs.declared.opening.Guard.{Guard}
use Rattle.bk_p_sub.specs.declared.opening.Guard.TheVariants.{Pre, Assert, If, Select, While}

-- a word that begins a substitution
abbrev pub is_atom_word : ℕ → Bool
is_atom_word op = nat_eq op SKIP || nat_eq op BEGIN || nat_eq op CHOICE || nat_eq op PRE || nat_eq op ASSERT || nat_eq op IF || nat_eq op SELECT || nat_eq op WHILE || nat_eq op VAR || nat_eq op ANY || nat_eq op LET

-- a name or such a word
abbrev pub begins_atom : TokenKind → Bool
begins_atom (Name x) = true
begins_atom (Word op) = is_atom_word op
begins_atom _ = false

word_begins : (op : ℕ) (K : Piece) (t : Token) (us : List Token) → is_atom_word op ≡ true → (JustWord op ⌢ K) (t ∷ us) → begins_atom t.kind ≡ true
word_begins op K t us a h =
    let f = first (Word op) K (t ∷ us) h in
    let e = f.is in
    let same : t ≡ f.token = cc in
    ap (λ u. begins_atom u.kind) same ∙ ap begins_atom f.same ∙ a

declared_begins : (x : RawName) (front back : List Token) (t : Token) (us : List Token) → t ∷ us ≡ front ++ back → Declared x front → begins_atom t.kind ≡ true
declared_begins x front back t us e d =
    let g : t ∷ us ≡ d.0 ∷ back = e ∙ ap (λ vs. vs ++ back) d.1 in
    let same : t ≡ d.0 = cc in
    ap (λ u. begins_atom u.kind) same ∙ ap begins_atom d.2

names_begin : (xs : List RawName) (front back : List Token) (t : Token) (us : List Token) → t ∷ us ≡ front ++ back → Names xs front → begins_atom t.kind ≡ true
names_begin [] front back t us e d = absurd d
names_begin (x ∷ []) front back t us e d = declared_begins x front back t us e d
names_begin (x ∷ y ∷ ys) front back t us e d = declared_begins x d.0 (d.1 ++ back) t us (e ∙ ap (λ vs. vs ++ back) d.2 ∙ append_assoc d.0 d.1 back) d.3

called_begins : (xs : List RawName) (o : RawName) (vs : RawTrees) (t : Token) (us : List Token) → Called xs o vs (t ∷ us) → begins_atom t.kind ≡ true
called_begins [] o no_trees t us h = declared_begins o (t ∷ us) [] t us (sym (append-nil (t ∷ us))) h
called_begins [] o (tree_and v vs) t us h = declared_begins o h.0 h.1 t us h.2 h.3
called_begins (x ∷ xs) o vs t us h = names_begin (x ∷ xs) h.0 h.1 t us h.2 h.3

begun : (calls : Bool) (u : SubNode) (t : Token) (us : List Token) → Stated calls u 2 (t ∷ us) → begins_atom t.kind ≡ true
begun calls sub_skip t us h = word_begins SKIP (λ vs. vs ≡ []) t us refl (last (Word SKIP) (t ∷ us) h)
begun calls (sub_assign xs ts) t us h = names_begin xs h.0 h.1 t us h.2 h.3
begun calls (sub_assign_at f y e) t us h = declared_begins f h.0 h.1 t us h.2 h.3
begun calls (sub_member y e) t us h = declared_begins y h.0 h.1 t us h.2 h.3
begun calls (sub_such xs p) t us h = names_begin xs h.0 h.1 t us h.2 h.3
begun calls (sub_call xs o vs) t us h = called_begins xs o vs t us h.0
begun calls (sub_begin s) t us h = word_begins BEGIN (Sub calls s 0 ⌢ JustWord END) t us refl h
begun calls (sub_pre p s) t us h = word_begins PRE (Spells p ⌢ JustWord THEN ⌢ Sub calls s 0 ⌢ JustWord END) t us refl h
begun calls (sub_assert p s) t us h = word_begins ASSERT (Spells p ⌢ JustWord THEN ⌢ Sub calls s 0 ⌢ JustWord END) t us refl h
begun calls (sub_if p s bs) t us h = word_begins IF (Spells p ⌢ JustWord THEN ⌢ (Sub calls s 0 ⌢ Branched calls ELSIF bs) ⌢ JustWord END) t us refl h
begun calls (sub_choice s cs) t us h = word_begins CHOICE ((Sub calls s 0 ⌢ Chosen calls cs) ⌢ JustWord END) t us refl h
begun calls (sub_select p s bs) t us h = word_begins SELECT (Spells p ⌢ JustWord THEN ⌢ (Sub calls s 0 ⌢ Branched calls WHEN bs) ⌢ JustWord END) t us refl h
begun calls (sub_any xs p s) t us h = word_begins ANY (Names xs ⌢ JustWord WHERE ⌢ Spells p ⌢ JustWord THEN ⌢ Sub calls s 0 ⌢ JustWord END) t us refl h
begun calls (sub_let xs p s) t us h = word_begins LET (Names xs ⌢ JustWord BE ⌢ Spells p ⌢ JustWord IN ⌢ Sub calls s 0 ⌢ JustWord END) t us refl h.0
begun calls (sub_var xs s) t us h = word_begins VAR (Names xs ⌢ JustWord IN ⌢ Sub calls s 0 ⌢ JustWord END) t us refl h
begun calls (sub_while p s i v) t us h = word_begins WHILE (Spells p ⌢ JustWord DO ⌢ Sub calls s 0 ⌢ JustWord INVARIANT ⌢ Spells i ⌢ JustWord VARIANT ⌢ Spells v ⌢ JustWord END) t us refl h
begun calls (sub_parallel s r) t us h = absurd (omega (arith, h.0))
begun calls (sub_sequence s r) t us h = absurd (omega (arith, h.0))

true_false : true ≡ false → ⊥
true_false e = cc

pub no_atom : (calls : Bool) (t : Token) (rest : List Token) → begins_atom t.kind ≡ false → Nothing (Atom calls) (t ∷ rest)
no_atom calls t rest n (sub at u) front after e h =
    let g : t ∷ rest ≡ h.0 ∷ (h.1 ++ after) = e ∙ ap (λ vs. vs ++ after) h.2 in
    let same : t ≡ h.0 = cc in
    true_false (sym (begun calls u h.0 h.1 (subst (Stated calls u 2) h.2 h.4)) ∙ ap (λ v. begins_atom v.kind) (sym same) ∙ n)

pub no_atom_at_all : (calls : Bool) → Nothing (Atom calls) []
no_atom_at_all calls (sub at u) front after e h =
    let g : [] ≡ h.0 ∷ (h.1 ++ after) = e ∙ ap (λ vs. vs ++ after) h.2 in
    cc

-- ---- no word that begins one
or_false : (a b : Bool) → a ≡ false → b ≡ false → (a || b) ≡ false
or_false true b e f = absurd (true_false e)
or_false false b e f = f

not_equal : (a b : ℕ) → a ≢ b → nat_eq a b ≡ false
not_equal a b h = elim (cases_Bool (nat_eq a b)) [
  | inl e ↦ absurd (h (eqb-true a b e))
  | inr e ↦ e
]

no_guard : (op word : ℕ) (g : Guard) → ((g : Guard) → guard_kind g ≢ Word op) → guard_kind g ≡ Word word → nat_eq op word ≡ false
no_guard op word g h e = not_equal op word (λ s. h g (e ∙ (λ i. Word (sym s i))))

pub no_atom_word : (calls : Bool) (t : Token) (rest : List Token) (op : ℕ) → t.kind ≡ Word op → op ≢ SKIP → op ≢ BEGIN → op ≢ CHOICE → op ≢ VAR → op ≢ ANY → op ≢ LET → ((g : Guard) → guard_kind g ≢ Word op) → Nothing (Atom calls) (t ∷ rest)
no_atom_word calls t rest op e a b c d f l g =
    let or2 = or_false (nat_eq op SKIP) (nat_eq op BEGIN) (not_equal op SKIP a) (not_equal op BEGIN b) in
    let or3 = or_false (nat_eq op SKIP || nat_eq op BEGIN) (nat_eq op CHOICE) or2 (not_equal op CHOICE c) in
    let or4 = or_false (nat_eq op SKIP || nat_eq op BEGIN || nat_eq op CHOICE) (nat_eq op PRE) or3 (no_guard op PRE Pre g refl) in
    let or5 = or_false (nat_eq op SKIP || nat_eq op BEGIN || nat_eq op CHOICE || nat_eq op PRE) (nat_eq op ASSERT) or4 (no_guard op ASSERT Assert g refl) in
    let or6 = or_false (nat_eq op SKIP || nat_eq op BEGIN || nat_eq op CHOICE || nat_eq op PRE || nat_eq op ASSERT) (nat_eq op IF) or5 (no_guard op IF If g refl) in
    let or7 = or_false (nat_eq op SKIP || nat_eq op BEGIN || nat_eq op CHOICE || nat_eq op PRE || nat_eq op ASSERT || nat_eq op IF) (nat_eq op SELECT) or6 (no_guard op SELECT Select g refl) in
    let or8 = or_false (nat_eq op SKIP || nat_eq op BEGIN || nat_eq op CHOICE || nat_eq op PRE || nat_eq op ASSERT || nat_eq op IF || nat_eq op SELECT) (nat_eq op WHILE) or7 (no_guard op WHILE While g refl) in
    let or9 = or_false (nat_eq op SKIP || nat_eq op BEGIN || nat_eq op CHOICE || nat_eq op PRE || nat_eq op ASSERT || nat_eq op IF || nat_eq op SELECT || nat_eq op WHILE) (nat_eq op VAR) or8 (not_equal op VAR d) in
    let or10 = or_false (nat_eq op SKIP || nat_eq op BEGIN || nat_eq op CHOICE || nat_eq op PRE || nat_eq op ASSERT || nat_eq op IF || nat_eq op SELECT || nat_eq op WHILE || nat_eq op VAR) (nat_eq op ANY) or9 (not_equal op ANY f) in
    let or11 = or_false (nat_eq op SKIP || nat_eq op BEGIN || nat_eq op CHOICE || nat_eq op PRE || nat_eq op ASSERT || nat_eq op IF || nat_eq op SELECT || nat_eq op WHILE || nat_eq op VAR || nat_eq op ANY) (nat_eq op LET) or10 (not_equal op LET l) in
    no_atom calls t rest (ap begins_atom e ∙ or11)

-- another kind of token
not_begun : (kind : TokenKind) → ((x : List ℕ) → kind ≡ Name x → ⊥) → ((op : ℕ) → kind ≡ Word op → ⊥) → begins_atom kind ≡ false
not_begun (Name x) a b = absurd (a x refl)
not_begun (Word op) a b = absurd (b op refl)
not_begun (LevelName x n) a b = refl
not_begun (BoundName n) a b = refl
not_begun (Number z) a b = refl
not_begun (Sign op) a b = refl

pub no_atom_by : (calls : Bool) (tokens rest : List Token) (t : Token) → tokens ≡ t ∷ rest → ((x : List ℕ) → t.kind ≡ Name x → ⊥) → ((op : ℕ) → t.kind ≡ Word op → ⊥) → Nothing (Atom calls) tokens
no_atom_by calls tokens rest t e a b = subst (λ ts. Nothing (Atom calls) ts) (sym e) (no_atom calls t rest (not_begun t.kind a b))

pub no_atom_in_none : (calls : Bool) (tokens : List Token) → tokens ≡ [] → Nothing (Atom calls) tokens
no_atom_in_none calls tokens e = subst (λ ts. Nothing (Atom calls) ts) (sym e) (no_atom_at_all calls)
