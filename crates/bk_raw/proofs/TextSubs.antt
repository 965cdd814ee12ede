-- Texts of substitutions: what they are written for, and what is refused.
use Rattle.std.proofs.Common.{◌≡◌, ℕ, true, false, List, [], ◌∷◌, ◌++◌, None, refl, sym, ◌∙◌, ap, subst, arith, inl}
use Rattle.std.proofs.lemmas.Bool.{or_parts}
use Rattle.std.specs.Prelude.{Bool, ◌||◌, nat_eq, pos, codes}
use Rattle.std.proofs.lemmas.Bool.{eq-eqb}
use Rattle.bk_form.specs.declared.token.Token.{Token}
use Rattle.bk_form.specs.declared.token.TokenKind.TheVariants.{Name, Number, Sign, Word}
use Rattle.bk_ops.specs.declared.sign.TheConstants.{ASSIGN, SEMICOLON, PARALLEL, EQUAL}
use Rattle.bk_ops.specs.declared.word.TheConstants.{IF, THEN, ELSE, ELSIF, END, SKIP, BEGIN, PRE, ASSERT, CHOICE, SELECT, ANY, LET, VAR, WHILE}
use Rattle.bk_raw.specs.Grammar.Brackets.{is_sign}
use Rattle.bk_raw.specs.Grammar.Pieces.{JustWord, ◌⌢◌}
use Rattle.bk_raw.specs.Trees.RawTree.{RawTree, RawTrees, no_trees, tree_and}
use Rattle.bk_raw.specs.Grammar.Spelling.{Declared, Names, Term}
use Rattle.bk_raw.specs.declared.term.RawName.{RawName}
use Rattle.bk_raw.specs.Trees.SubTree.{SubTree, sub, SubNode, sub_skip, sub_assign, sub_assign_at, sub_member, sub_such, sub_call, sub_begin, sub_pre, sub_assert, sub_if, sub_choice, sub_select, sub_any, sub_let, sub_var, sub_while, sub_parallel, sub_sequence, Branches, no_branches, else_branch, branch_and}
use Rattle.bk_raw.specs.Grammar.SubSpelling.{Called, Sub, Stated, Branched, SpellsSub}
use Rattle.bk_raw.specs.Grammar.Texts.{token, skip_at, two_and, two_and_tree, three, else_first}
use Rattle.bk_raw.proofs.Runs.{Halts, nil-cons}
use Rattle.bk_raw.proofs.Steps.{Piece, Stopper, step, stepped}
use Rattle.bk_raw.proofs.TermRuns.{ends_term}
use Rattle.bk_raw.proofs.Patterns.{just-first, same-piece, StopsAt, stops-just, stops-last}
use Rattle.bk_raw.proofs.SubParts.{ends_list}
use Rattle.bk_raw.proofs.SubRuns.{sub-leads}
use Rattle.bk_raw.proofs.SubOne.{term-cut, words-same}
use Rattle.bk_raw.proofs.Lists.{absent-then}
use Rattle.bk_raw.proofs.TextComponents.{rest-of, false-true, all-read, equals_one}
use Rattle.bk_raw.proofs.Shapes.{regrouped}
use Rattle.bk_raw.proofs.ScriptOne.{first-same}

-- ---- x := 1 ; skip || skip
abbrev x : Token
x = token 0 1 (Name (codes "x"))

abbrev becomes : Token
becomes = token 2 4 (Sign ASSIGN)

abbrev one : Token
one = token 5 6 (Number (pos 1))

abbrev then : Token
then = token 7 8 (Sign SEMICOLON)

abbrev skip_one : Token
skip_one = token 9 13 (Word SKIP)

abbrev beside : Token
beside = token 14 16 (Sign PARALLEL)

abbrev skip_two : Token
skip_two = token 17 21 (Word SKIP)

skip-written : (at end asked : ℕ) → Sub true (skip_at at) asked (token at end (Word SKIP) ∷ [])
skip-written at end asked = (token at end (Word SKIP), [], refl, refl, (token at end (Word SKIP), refl, refl))

pub both-dividers : SpellsSub two_and_tree two_and
both-dividers = (
  x,
  _,
  refl,
  refl,
  (
    omega arith,
    (
      x ∷ becomes ∷ one ∷ [],
      then ∷ skip_one ∷ beside ∷ skip_two ∷ [],
      refl,
      (x, _, refl, refl, (x ∷ [], becomes ∷ one ∷ [], refl, (x, refl, refl, refl), (becomes ∷ [], one ∷ [], refl, (becomes, refl, refl), inl (one, [], refl, refl, inl (1, refl, (one, refl, refl)))))),
      (
        then ∷ [],
        skip_one ∷ beside ∷ skip_two ∷ [],
        refl,
        (then, refl, refl),
        (skip_one, _, refl, refl, (omega arith, (skip_one ∷ [], beside ∷ skip_two ∷ [], refl, skip-written 9 13 1, (beside ∷ [], skip_two ∷ [], refl, (beside, refl, refl), skip-written 17 21 2)))),
      ),
    ),
  ),
)

-- ---- skip ; skip ; skip
abbrev first_skip : Token
first_skip = token 0 4 (Word SKIP)

abbrev first_then : Token
first_then = token 5 6 (Sign SEMICOLON)

abbrev second_skip : Token
second_skip = token 7 11 (Word SKIP)

abbrev second_then : Token
second_then = token 12 13 (Sign SEMICOLON)

abbrev third_skip : Token
third_skip = token 14 18 (Word SKIP)

pub to-the-left : SpellsSub (sub 0 (sub_sequence (sub 0 (sub_sequence (skip_at 0) (skip_at 7))) (skip_at 14))) three
to-the-left = (
  first_skip,
  _,
  refl,
  refl,
  (
    omega arith,
    (
      first_skip ∷ first_then ∷ second_skip ∷ [],
      second_then ∷ third_skip ∷ [],
      refl,
      (first_skip, _, refl, refl, (omega arith, (first_skip ∷ [], first_then ∷ second_skip ∷ [], refl, skip-written 0 4 0, (first_then ∷ [], second_skip ∷ [], refl, (first_then, refl, refl), skip-written 7 11 1)))),
      (second_then ∷ [], third_skip ∷ [], refl, (second_then, refl, refl), skip-written 14 18 1),
    ),
  ),
)

-- a list stands in no place of a piece
pub not-to-the-right : SpellsSub (sub 0 (sub_sequence (skip_at 0) (sub 7 (sub_sequence (skip_at 7) (skip_at 14))))) three → ⊥
not-to-the-right h =
    let list = h.4 in
    let behind = list.1.4.4 in
    let strength = behind.4.0 in
    omega (arith, strength)

-- ---- IF p = 1 THEN skip ELSE skip ELSIF p = 1 THEN skip END
abbrev if_word : Token
if_word = token 0 2 (Word IF)

abbrev condition : List Token
condition = token 3 4 (Name (codes "p")) ∷ token 5 6 (Sign EQUAL) ∷ token 7 8 (Number (pos 1)) ∷ []

abbrev behind_condition : List Token
behind_condition =
    token 9 13 (Word THEN) ∷ token 14 18 (Word SKIP) ∷ token 19 23 (Word ELSE) ∷ token 24 28 (Word SKIP) ∷ token 29 34 (Word ELSIF) ∷
    token 35 36 (Name (codes "p")) ∷ token 37 38 (Sign EQUAL) ∷ token 39 40 (Number (pos 1)) ∷ token 41 45 (Word THEN) ∷ token 46 50 (Word SKIP) ∷ token 51 54 (Word END) ∷ []

-- whether the sign of this number stands among the tokens
abbrev has_sign : ℕ → List Token → Bool
has_sign op [] = false
has_sign op (t ∷ ts) = is_sign (nat_eq op) t.kind || has_sign op ts

no-sign-there : (op : ℕ) (ts front : List Token) (t : Token) (after : List Token) → has_sign op ts ≡ false → t.kind ≡ Sign op → ts ≡ front ++ t ∷ after → ⊥
no-sign-there op [] [] t after n k e = nil-cons t after e
no-sign-there op [] (u ∷ front) t after n k e = nil-cons u (front ++ t ∷ after) e
no-sign-there op (u ∷ ts) [] t after n k e = false-true (sym n ∙ ap (λ v. is_sign (nat_eq op) v || has_sign op ts) (ap (λ v. v.kind) (first-same u t ts after e) ∙ k) ∙ ap (λ b. b || has_sign op ts) (eq-eqb op op refl))
no-sign-there op (u ∷ ts) (v ∷ front) t after n k e = no-sign-there op ts front t after (or_parts (is_sign (nat_eq op) u.kind) (has_sign op ts) n).1 k (rest-of u v ts (front ++ t ∷ after) e)

abbrev tokens : List Token
tokens = condition ++ behind_condition

first-word : (op : ℕ) (K : Piece) (ts : List Token) → (JustWord op ⌢ K) (if_word ∷ ts) → IF ≡ op
first-word op K ts h = words-same IF op (just-first (Word op) K if_word ts h).0

name-is-no-word : (x : List ℕ) (op : ℕ) → Word op ≡ Name x → ⊥
name-is-no-word x op e = cc

declared-first : (x : RawName) (front after ts : List Token) → if_word ∷ ts ≡ front ++ after → Declared x front → ⊥
declared-first x front after ts e h = name-is-no-word x.text IF (ap (λ t. t.kind) (first-same if_word h.0 ts after (e ∙ ap (λ us. us ++ after) h.1)) ∙ h.2)

names-first : (xs : List RawName) (front after ts : List Token) → if_word ∷ ts ≡ front ++ after → Names xs front → ⊥
names-first [] front after ts e h = h
names-first (x ∷ []) front after ts e h = declared-first x front after ts e h
names-first (x ∷ y ∷ ys) front after ts e h = name-is-no-word x.text IF (ap (λ t. t.kind) (first-same if_word h.3.0 ts (h.1 ++ after) (e ∙ ap (λ us. us ++ after) (h.2 ∙ ap (λ us. us ++ h.1) h.3.1))) ∙ h.3.2)

-- what stands behind IF p THEN s
branched-ends : (bs : Branches) → StopsAt ends_list (0, true) (Branched true ELSIF bs ⌢ JustWord END)
branched-ends no_branches ts h = stops-last ends_list 0 true (Word END) refl ts (absent-then (JustWord END) ts h)
branched-ends (else_branch s) ts h = stops-just ends_list 0 true (Word ELSE) (Sub true s 0 ⌢ JustWord END) refl ts (regrouped (JustWord ELSE) (Sub true s 0) (JustWord END) ts h)
branched-ends (branch_and p s bs) ts h =
    let K = Term p 0 ⌢ JustWord THEN ⌢ (Sub true s 0 ⌢ Branched true ELSIF bs) in
    stops-just ends_list 0 true (Word ELSIF) (K ⌢ JustWord END) refl ts (regrouped (JustWord ELSIF) K (JustWord END) ts h)

-- these tokens stand behind
abbrev Are : List Token → Piece
Are us ts = ts ≡ us

are-stops : (stops : Stopper) (t : Token) (us : List Token) → stepped stops 0 true t.kind ≡ None → StopsAt stops (0, true) (Are (t ∷ us))
are-stops stops t us n ts e = subst (Halts (step stops) (0, true)) (sym e) n

abbrev behind_then : List Token
behind_then = token 19 23 (Word ELSE) ∷ token 24 28 (Word SKIP) ∷ token 29 34 (Word ELSIF) ∷ token 35 36 (Name (codes "p")) ∷ token 37 38 (Sign EQUAL) ∷ token 39 40 (Number (pos 1)) ∷ token 41 45 (Word THEN) ∷ token 46 50 (Word SKIP) ∷ token 51 54 (Word END) ∷ []

-- a substitution in front of skip is skip
behind-skip : (s : SubTree) (K : Piece) (at end : ℕ) (t : Token) (us : List Token) → StopsAt ends_list (0, true) K → stepped ends_list 0 true t.kind ≡ None → (Sub true s 0 ⌢ K) (token at end (Word SKIP) ∷ t ∷ us) → K (t ∷ us)
behind-skip s K at end t us sk n h =
    let c = same-piece ends_list (0, false) (0, true) (0, true) (Sub true s 0) (Sub true (skip_at at) 0) K (Are (t ∷ us)) (token at end (Word SKIP) ∷ t ∷ us) (sub-leads true s 0) (sub-leads true (skip_at at) 0) sk (are-stops ends_list t us n) h (token at end (Word SKIP) ∷ [], t ∷ us, refl, skip-written at end 0, refl) in
    subst K c.3.2 c.3.1

only-word : (op : ℕ) (t : Token) (us : List Token) (kind : ℕ) → t.kind ≡ Word kind → JustWord op (t ∷ us) → kind ≡ op
only-word op t us kind k h = words-same kind op (sym k ∙ ap (λ x. x.kind) (first-same t h.0 us [] h.1) ∙ h.2)

no-branches-there : (bs : Branches) → (Branched true ELSIF bs ⌢ JustWord END) behind_then → ⊥
no-branches-there no_branches h = omega (arith, only-word END (token 19 23 (Word ELSE)) _ ELSE refl (absent-then (JustWord END) behind_then h))
no-branches-there (else_branch s) h =
    let i = just-first (Word ELSE) (Sub true s 0 ⌢ JustWord END) (token 19 23 (Word ELSE)) _ (regrouped (JustWord ELSE) (Sub true s 0) (JustWord END) behind_then h) in
    let j = behind-skip s (JustWord END) 24 28 (token 29 34 (Word ELSIF)) _ (stops-last ends_list 0 true (Word END) refl) refl i.1 in
    omega (arith, only-word END (token 29 34 (Word ELSIF)) _ ELSIF refl j)
no-branches-there (branch_and p s bs) h =
    let K = Term p 0 ⌢ JustWord THEN ⌢ (Sub true s 0 ⌢ Branched true ELSIF bs) in
    let i = just-first (Word ELSIF) (K ⌢ JustWord END) (token 19 23 (Word ELSE)) _ (regrouped (JustWord ELSIF) K (JustWord END) behind_then h) in
    omega (arith, words-same ELSE ELSIF i.0)

abbrev p_is_one : RawTree
p_is_one = equals_one 3 (codes "p")

no-if : (p : RawTree) (s : SubTree) (bs : Branches) → (JustWord IF ⌢ Term p 0 ⌢ JustWord THEN ⌢ (Sub true s 0 ⌢ Branched true ELSIF bs) ⌢ JustWord END) else_first → ⊥
no-if p s bs h =
    let K = (Sub true s 0 ⌢ Branched true ELSIF bs) ⌢ JustWord END in
    let i = just-first (Word IF) (Term p 0 ⌢ JustWord THEN ⌢ K) if_word tokens h in
    let c = term-cut p p_is_one (JustWord THEN ⌢ K) (Are behind_condition) tokens (stops-just ends_term 0 true (Word THEN) K refl) (are-stops ends_term (token 9 13 (Word THEN)) _ refl) i.1 (condition, behind_condition, refl, all-read 5 condition p_is_one refl, refl) in
    let j = just-first (Word THEN) K (token 9 13 (Word THEN)) _ (subst (JustWord THEN ⌢ K) c.1.2 c.1.1) in
    let k = behind-skip s (Branched true ELSIF bs ⌢ JustWord END) 14 18 (token 19 23 (Word ELSE)) _ (branched-ends bs) refl (regrouped (Sub true s 0) (Branched true ELSIF bs) (JustWord END) _ j.1) in
    no-branches-there bs k

no-call : (xs : List RawName) (o : RawName) (us : RawTrees) → Called xs o us else_first → ⊥
no-call [] o no_trees h = declared-first o else_first [] tokens refl h
no-call [] o (tree_and t us) h = declared-first o h.0 h.1 tokens h.2 h.3
no-call (x ∷ xs) o us h = names-first (x ∷ xs) h.0 h.1 tokens h.2 h.3

no-node : (u : SubNode) → Stated true u 0 else_first → ⊥
no-node (sub_call xs o ts) h = no-call xs o ts h.0
no-node sub_skip h = omega (arith, only-word SKIP if_word tokens IF refl h)
no-node (sub_assign xs ts) h = names-first xs h.0 h.1 tokens h.2 h.3
no-node (sub_assign_at f x e) h = declared-first f h.0 h.1 tokens h.2 h.3
no-node (sub_member x e) h = declared-first x h.0 h.1 tokens h.2 h.3
no-node (sub_such xs p) h = names-first xs h.0 h.1 tokens h.2 h.3
no-node (sub_begin s) h = omega (arith, first-word BEGIN _ tokens h)
no-node (sub_pre p s) h = omega (arith, first-word PRE _ tokens h)
no-node (sub_assert p s) h = omega (arith, first-word ASSERT _ tokens h)
no-node (sub_if p s bs) h = no-if p s bs h
no-node (sub_choice s cs) h = omega (arith, first-word CHOICE _ tokens h)
no-node (sub_select p s bs) h = omega (arith, first-word SELECT _ tokens h)
no-node (sub_any xs p s) h = omega (arith, first-word ANY _ tokens h)
no-node (sub_let xs p s) h = omega (arith, first-word LET _ tokens h.0)
no-node (sub_var xs s) h = omega (arith, first-word VAR _ tokens h)
no-node (sub_while p s i v) h = omega (arith, first-word WHILE _ tokens h)
no-node (sub_parallel s t) h = let b = h.1.4 in no-sign-there PARALLEL else_first h.1.0 b.3.0 b.1 refl b.3.2 (h.1.2 ∙ ap (λ us. h.1.0 ++ us) (b.2 ∙ ap (λ us. us ++ b.1) b.3.1))
no-node (sub_sequence s t) h = let b = h.1.4 in no-sign-there SEMICOLON else_first h.1.0 b.3.0 b.1 refl b.3.2 (h.1.2 ∙ ap (λ us. h.1.0 ++ us) (b.2 ∙ ap (λ us. us ++ b.1) b.3.1))

pub else-is-last : (s : SubTree) → SpellsSub s else_first → ⊥
else-is-last (sub at u) h = no-node u h.4
