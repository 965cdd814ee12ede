-- Places in sequents, in front of tokens.
use Rattle.std.specs.Prelude.{◌≡◌, ℕ, pos, ◌≤◌, List, [], ◌∷◌, ◌++◌, length, codes, refl}
use Rattle.std.proofs.Common.{arith, sym, ◌∙◌, ap, append_assoc, append-nil, length-append}
use Rattle.bk_form.specs.declared.token.Token.{Token}
use Rattle.bk_form.specs.declared.token.TokenKind.{TokenKind}
use Rattle.bk_form.specs.declared.token.TokenKind.TheVariants.{Name, Number}
use Rattle.bk_raw.specs.Grammar.Pieces.{Just, ◌⌢◌, Digits, InRow}
use Rattle.bk_raw.specs.Trees.ScriptTree.{RawPlace, in_goal, in_hypothesis}
use Rattle.bk_raw.specs.Grammar.ScriptSpelling.{Place}
use Rattle.bk_raw.proofs.Steps.{Piece}
use Rattle.bk_raw.proofs.Patterns.{first}
use Rattle.bk_raw.proofs.PartOne.{texts-same}
use Rattle.bk_p_expr.specs.Fronts.{Longest, Nothing}
use Rattle.bk_p_proof.specs.Ahead.{Ahead}
use Rattle.bk_p_proof.proofs.Cuts.{IsPrefixFree, Anything, Both, both_longest, first_nothing, free_cuts, token_longest, token_nothing, tail_same}
use Rattle.bk_p_proof.proofs.Tokens.{digits_free, digits_longest}

-- ---- as many as there are
-- these are read, up to this rest
abbrev pub RowTo : {A : Type 0} → (A → Piece) → List Token → List A → List Token → Type 0
RowTo Part tokens xs rest = (w : List Token) × (tokens ≡ w ++ rest) × InRow Part xs w

row_and : {A : Type 0} (Part : A → Piece) (xs : List A) (x : A) (w v : List Token) → InRow Part xs w → Part x v → InRow Part (xs ++ x ∷ []) (w ++ v)
row_and Part [] x w v h p = (v, [], ap (λ us. us ++ v) h ∙ sym (append-nil v), p, refl)
row_and Part (y ∷ ys) x w v h p = (h.0, h.1 ++ v, ap (λ us. us ++ v) h.2 ∙ append_assoc h.0 h.1 v, h.3, row_and Part ys x h.1 v h.4 p)

pub row_none : {A : Type 0} (Part : A → Piece) (tokens : List Token) → RowTo Part tokens [] tokens
row_none Part tokens = ([], refl, refl)

pub row_more : {A : Type 0} (Part : A → Piece) (tokens ts rest : List Token) (xs : List A) (x : A) → RowTo Part tokens xs ts → Longest Part ts x rest → RowTo Part tokens (xs ++ x ∷ []) rest
row_more Part tokens ts rest xs x r h = (r.0 ++ h.written, r.1 ∙ ap (λ us. r.0 ++ us) h.splits ∙ sym (append_assoc r.0 h.written rest), row_and Part xs x r.0 h.written r.2 h.spelled)

longer : {A : Type 0} (Part : A → Piece) → IsPrefixFree Part → (xs ys : List A) (w f rest after : List Token) → w ++ rest ≡ f ++ after → InRow Part xs w → InRow Part ys f → Nothing Part rest → length rest ≤ length after
longer Part p [] [] w f rest after e h k n = omega (arith, ap length (ap (λ us. us ++ rest) (sym h) ∙ e ∙ ap (λ us. us ++ after) k))
longer Part p [] (y ∷ ys) w f rest after e h k n = absurd (n y k.0 (k.1 ++ after) (ap (λ us. us ++ rest) (sym h) ∙ e ∙ ap (λ us. us ++ after) k.2 ∙ append_assoc k.0 k.1 after) k.3)
longer Part p (x ∷ xs) [] w f rest after e h k n = omega (arith, ap length (e ∙ ap (λ us. us ++ after) k), length-append w rest)
longer Part p (x ∷ xs) (y ∷ ys) w f rest after e h k n =
    let c = p x y h.0 k.0 (h.1 ++ rest) (k.1 ++ after) (sym (append_assoc h.0 h.1 rest) ∙ ap (λ us. us ++ rest) (sym h.2) ∙ e ∙ ap (λ us. us ++ after) k.2 ∙ append_assoc k.0 k.1 after) h.3 k.3 in
    longer Part p xs ys h.1 k.1 rest after c.1 h.4 k.4 n

pub row_longest : {A : Type 0} (Part : A → Piece) → IsPrefixFree Part → (tokens rest : List Token) (xs : List A) → RowTo Part tokens xs rest → Nothing Part rest → Longest (InRow Part) tokens xs rest
row_longest Part p tokens rest xs r n = record {
  written = r.0;
  splits = r.1;
  spelled = r.2;
  longest = λ ys front after e k. longer Part p xs ys r.0 front rest after (sym r.1 ∙ e) r.2 k n;
}

-- ---- paths
pub path_none : (tokens : List Token) → RowTo Digits tokens [] tokens
path_none tokens = row_none Digits tokens

pub path_more : (tokens ts rest : List Token) (ns : List ℕ) (n : ℕ) → RowTo Digits tokens ns ts → Ahead (Number (pos n)) ts rest → RowTo Digits tokens (ns ++ n ∷ []) rest
path_more tokens ts rest ns n r a = row_more Digits tokens ts rest ns n r (digits_longest ts rest n a)

pub path_longest : (tokens rest : List Token) (ns : List ℕ) → RowTo Digits tokens ns rest → Nothing Digits rest → Longest (InRow Digits) tokens ns rest
path_longest tokens rest ns r n = row_longest Digits digits_free tokens rest ns r n

pub path_shorter : (tokens rest : List Token) (ns : List ℕ) → RowTo Digits tokens ns rest → length rest ≤ length tokens
path_shorter tokens rest ns r = omega (arith, ap length r.1, length-append r.0 rest)

-- ---- places
goal_hyp : Name (codes "goal") ≡ Name (codes "hyp") → ⊥
goal_hyp e = omega (arith, ap length (texts-same (codes "goal") (codes "hyp") e))

-- two kinds of a first token are the same
first_kinds : (one other : TokenKind) (K : Piece) (tokens ts front after : List Token) → Ahead one tokens ts → tokens ≡ front ++ after → (Just other ⌢ K) front → one ≡ other
first_kinds one other K tokens ts front after a e h =
    let f = first other K front h in
    let s = tail_same a.0 f.token ts (f.rest ++ after) (sym a.1 ∙ e ∙ ap (λ us. us ++ after) f.is) in
    sym a.2 ∙ ap (λ t. t.kind) s.0 ∙ f.same

pub place_goal : (tokens ts rest : List Token) (path : List ℕ) → Ahead (Name (codes "goal")) tokens ts → Longest (InRow Digits) ts path rest → Longest Place tokens (in_goal path) rest
place_goal tokens ts rest path a h =
    let k = token_longest (Name (codes "goal")) (InRow Digits) tokens ts rest path a h in
    record { written = k.written; splits = k.splits; spelled = k.spelled; longest = longest k }
  where
    longest : Longest (λ q. Just (Name (codes "goal")) ⌢ InRow Digits q) tokens path rest → (p : RawPlace) (front after : List Token) → tokens ≡ front ++ after → Place p front → length rest ≤ length after
    longest k (in_goal q) front after e p = k.longest q front after e p
    longest k (in_hypothesis i q) front after e p = absurd (goal_hyp (first_kinds (Name (codes "goal")) (Name (codes "hyp")) (Digits i ⌢ InRow Digits q) tokens ts front after a e p))

pub place_hypothesis : (tokens ts us rest : List Token) (i : ℕ) (path : List ℕ) → Ahead (Name (codes "hyp")) tokens ts → Ahead (Number (pos i)) ts us → Longest (InRow Digits) us path rest → Longest Place tokens (in_hypothesis i path) rest
place_hypothesis tokens ts us rest i path a b h =
    let m = both_longest Digits (InRow Digits) Anything (free_cuts Digits Anything digits_free) (λ y back after s. tt) ts us rest i path (digits_longest ts us i b) h in
    let k = token_longest (Name (codes "hyp")) (Both Digits (InRow Digits)) tokens ts rest (i, path) a m in
    record { written = k.written; splits = k.splits; spelled = k.spelled; longest = longest k }
  where
    longest : Longest (λ (q : ℕ × List ℕ). Just (Name (codes "hyp")) ⌢ Digits q.0 ⌢ InRow Digits q.1) tokens (i, path) rest → (p : RawPlace) (front after : List Token) → tokens ≡ front ++ after → Place p front → length rest ≤ length after
    longest k (in_goal q) front after e p = absurd (goal_hyp (sym (first_kinds (Name (codes "hyp")) (Name (codes "goal")) (InRow Digits q) tokens ts front after a e p)))
    longest k (in_hypothesis j q) front after e p = k.longest (j, q) front after e p

pub place_no_number : (tokens ts : List Token) → Ahead (Name (codes "hyp")) tokens ts → Nothing Digits ts → Nothing Place tokens
place_no_number tokens ts a n (in_goal q) front after e p = goal_hyp (sym (first_kinds (Name (codes "hyp")) (Name (codes "goal")) (InRow Digits q) tokens ts front after a e p))
place_no_number tokens ts a n (in_hypothesis i q) front after e p = token_nothing (Name (codes "hyp")) (Both Digits (InRow Digits)) tokens ts a (first_nothing Digits (InRow Digits) ts n) (i, q) front after e p
