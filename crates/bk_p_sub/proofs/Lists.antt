-- Lists of substitutions, of terms and of names, as rows.
use Rattle.std.specs.Prelude.{◌≡◌, ℕ, suc, ◌≤◌, Bool, true, false, List, [], ◌∷◌, ◌++◌, refl}
use Rattle.std.proofs.Common.{inl, inr, arith, sym, ◌∙◌, ap, subst, append_assoc, append-nil}
use Rattle.bk_form.specs.declared.token.Token.{Token}
use Rattle.bk_ops.specs.declared.sign.TheConstants.{COMMA, SEMICOLON, PARALLEL}
use Rattle.bk_raw.specs.Grammar.Pieces.{JustSign, ◌⌢◌}
use Rattle.bk_raw.specs.Grammar.Spelling.{Declared, Names, Terms, Spells}
use Rattle.bk_raw.specs.Trees.RawTree.{RawTree, RawTrees, no_trees, tree_and, trees_of}
use Rattle.bk_raw.specs.declared.term.RawName.{RawName}
use Rattle.bk_raw.specs.Trees.SubTree.{SubTree, sub, SubNode, sub_parallel, sub_sequence}
use Rattle.bk_raw.specs.Grammar.SubSpelling.{Sub, Stated}
use Rattle.bk_raw.proofs.Steps.{Piece}
use Rattle.bk_raw.proofs.SubOne.{View, view}
use Rattle.bk_p_expr.specs.Fronts.{Longest, Nothing}
use Rattle.bk_p_sub.proofs.Rows.{Follow, Row, longest_as, nothing_as, row_of_divided, divided_of_row}

-- ---- names
pub names_longest : (tokens rest : List Token) (xs : List RawName) → Longest (Row Declared COMMA) tokens xs rest → Longest Names tokens xs rest
names_longest tokens rest xs h = longest_as (Row Declared COMMA) Names tokens rest xs xs h (λ ts k. divided_of_row Declared COMMA xs ts k) (λ ys ts k. (ys, row_of_divided Declared COMMA ys ts k))

pub names_nothing : (tokens : List Token) → Nothing (Row Declared COMMA) tokens → Nothing Names tokens
names_nothing tokens n = nothing_as (Row Declared COMMA) Names tokens n (λ ys ts k. (ys, row_of_divided Declared COMMA ys ts k))

-- ---- terms
row_of_terms : (us : RawTrees) (ts : List Token) → Terms us ts → (xs : List RawTree) × Row Spells COMMA xs ts
row_of_terms no_trees ts h = absurd h
row_of_terms (tree_and t no_trees) ts h = (t ∷ [], (ts, [], sym (append-nil ts), h, refl))
row_of_terms (tree_and t (tree_and u us)) ts h =
    let m = h.4 in
    let r = row_of_terms (tree_and u us) m.1 m.4 in
    (t ∷ r.0, (h.0, h.1, h.2, h.3, followed r.0 h.1 (m.0, m.1, m.2, m.3, r.1)))
  where
    followed : (xs : List RawTree) (ts : List Token) → (JustSign COMMA ⌢ Row Spells COMMA xs) ts → Follow Spells COMMA xs ts
    followed [] ts h = absurd h.4
    followed (x ∷ xs) ts h = h

terms_of_row : (xs : List RawTree) (ts : List Token) → Row Spells COMMA xs ts → Terms (trees_of xs) ts
terms_of_row [] ts h = h
terms_of_row (x ∷ []) ts h = subst (Spells x) (sym (h.2 ∙ ap (λ us. h.0 ++ us) h.4 ∙ append-nil h.0)) h.3
terms_of_row (x ∷ y ∷ ys) ts h = let m = h.4 in (h.0, h.1, h.2, h.3, (m.0, m.1, m.2, m.3, terms_of_row (y ∷ ys) m.1 m.4))

pub terms_longest : (tokens rest : List Token) (xs : List RawTree) → Longest (Row Spells COMMA) tokens xs rest → Longest Terms tokens (trees_of xs) rest
terms_longest tokens rest xs h = longest_as (Row Spells COMMA) Terms tokens rest xs (trees_of xs) h (λ ts k. terms_of_row xs ts k) (λ us ts k. row_of_terms us ts k)

pub terms_nothing : (tokens : List Token) → Nothing (Row Spells COMMA) tokens → Nothing Terms tokens
terms_nothing tokens n = nothing_as (Row Spells COMMA) Terms tokens n (λ us ts k. row_of_terms us ts k)

-- ---- substitutions
-- the byte where it starts
abbrev pub starts_at : SubTree → ℕ
starts_at (sub at u) = at

-- a substitution, and further ones joined to it to the left
abbrev pub joined : (SubTree → SubTree → SubNode) → SubTree → List SubTree → SubTree
joined make s [] = s
joined make s (t ∷ ts) = joined make (sub (starts_at s) (make s t)) ts

pub joined_more : (make : SubTree → SubTree → SubNode) (s : SubTree) (ts : List SubTree) (t : SubTree) → joined make s (ts ++ t ∷ []) ≡ sub (starts_at (joined make s ts)) (make (joined make s ts) t)
joined_more make s [] t = refl
joined_more make s (u ∷ ts) t = joined_more make (sub (starts_at s) (make s u)) ts t

pub joined_starts : (make : SubTree → SubTree → SubNode) (s : SubTree) (ts : List SubTree) → starts_at (joined make s ts) ≡ starts_at s
joined_starts make s [] = refl
joined_starts make s (t ∷ ts) = joined_starts make (sub (starts_at s) (make s t)) ts

-- what may stand in a place may stand in one that asks less
stated_weaker : (calls : Bool) (u : SubNode) (m n : ℕ) (ts : List Token) → n ≤ m → View calls u → Stated calls u m ts → Stated calls u n ts
stated_weaker calls u m n ts l (inl p) h =
    let k : Stated calls (sub_sequence p.0 p.1) m ts = subst (λ x. Stated calls x m ts) p.2 h in
    subst (λ x. Stated calls x n ts) (sym p.2) (omega (arith, l, k.0), k.1)
stated_weaker calls u m n ts l (inr (inl p)) h =
    let k : Stated calls (sub_parallel p.0 p.1) m ts = subst (λ x. Stated calls x m ts) p.2 h in
    subst (λ x. Stated calls x n ts) (sym p.2) (omega (arith, l, k.0), k.1)
stated_weaker calls u m n ts l (inr (inr (inl c))) h = subst (λ x. Stated calls x n ts) (sym c.3) (subst (λ x. Stated calls x m ts) c.3 h)
stated_weaker calls u m n ts l (inr (inr (inr a))) h = a.anywhere m n ts h

pub sub_weaker : (calls : Bool) (s : SubTree) (m n : ℕ) (ts : List Token) → n ≤ m → Sub calls s m ts → Sub calls s n ts
sub_weaker calls (sub at u) m n ts l h = (h.0, h.1, h.2, h.3, stated_weaker calls u m n ts l (view calls u) h.4)

-- what is joined by a sign in a place that asks so much has its left part there too, and its right part binds tighter
pub record Joins (calls : Bool) (op m : ℕ) (make : SubTree → SubTree → SubNode) : Type 0 where
  pub apart : (s t : SubTree) (ts : List Token) → Stated calls (make s t) m ts → (Sub calls s m ⌢ JustSign op ⌢ Sub calls t (suc m)) ts
  pub together : (s t : SubTree) (ts : List Token) → (Sub calls s m ⌢ JustSign op ⌢ Sub calls t (suc m)) ts → Stated calls (make s t) m ts

pub joins_sequence : (calls : Bool) → Joins calls SEMICOLON 0 sub_sequence
joins_sequence calls = record { apart = λ s t ts h. h.1; together = λ s t ts h. (omega arith, h) }

pub joins_parallel : (calls : Bool) → Joins calls PARALLEL 1 sub_parallel
joins_parallel calls = record { apart = λ s t ts h. h.1; together = λ s t ts h. (omega arith, h) }

spelled_by : (calls : Bool) (op m : ℕ) (make : SubTree → SubTree → SubNode) → Joins calls op m make → (s : SubTree) (xs : List SubTree) (w v : List Token) → Sub calls s m w → Follow (λ t. Sub calls t (suc m)) op xs v → Sub calls (joined make s xs) m (w ++ v)
spelled_by calls op m make j s [] w v h f = subst (Sub calls s m) (sym (ap (λ us. w ++ us) f ∙ append-nil w)) h
spelled_by calls op m make j (sub at u) (x ∷ xs) w v h f =
    let g = f.4 in
    let both : Sub calls (sub at (make (sub at u) x)) m (w ++ (f.0 ++ g.0)) = (h.0, h.1 ++ (f.0 ++ g.0), ap (λ us. us ++ (f.0 ++ g.0)) h.2, h.3, j.together (sub at u) x (w ++ (f.0 ++ g.0)) (w, f.0 ++ g.0, refl, h, (f.0, g.0, refl, f.3, g.3))) in
    subst (Sub calls (joined make (sub at (make (sub at u) x)) xs) m) (append_assoc w (f.0 ++ g.0) g.1 ∙ ap (λ us. w ++ us) (append_assoc f.0 g.0 g.1 ∙ ap (λ us. f.0 ++ us) (sym g.2) ∙ sym f.2))
    (spelled_by calls op m make j (sub at (make (sub at u) x)) xs (w ++ (f.0 ++ g.0)) g.1 both g.4)

pub row_spells : (calls : Bool) (op m : ℕ) (make : SubTree → SubTree → SubNode) → Joins calls op m make → (x : SubTree) (xs : List SubTree) (ts : List Token) → Row (λ t. Sub calls t (suc m)) op (x ∷ xs) ts → Sub calls (joined make x xs) m ts
row_spells calls op m make j x xs ts h = subst (Sub calls (joined make x xs) m) (sym h.2) (spelled_by calls op m make j x xs h.0 h.1 (sub_weaker calls x (suc m) m h.0 (omega arith) h.3) h.4)

-- one more at the end of a row
row_and : (op : ℕ) (Part : SubTree → Piece) (xs : List SubTree) (x : SubTree) (w v : List Token) → Row Part op xs w → (JustSign op ⌢ Part x) v → Row Part op (xs ++ x ∷ []) (w ++ v)
row_and op Part [] x w v h k = absurd h
row_and op Part (y ∷ ys) x w v h k = (h.0, h.1 ++ v, ap (λ us. us ++ v) h.2 ∙ append_assoc h.0 h.1 v, h.3, follow_and ys h.1 h.4)
  where
    follow_and : (ys : List SubTree) (w : List Token) → Follow Part op ys w → Follow Part op (ys ++ x ∷ []) (w ++ v)
    follow_and [] w f = subst (λ us. Follow Part op (x ∷ []) (us ++ v)) (sym f) (k.0, k.1, k.2, k.3, (k.1, [], sym (append-nil k.1), k.4, refl))
    follow_and (z ∷ zs) w f = let g = f.4 in (f.0, f.1 ++ v, ap (λ us. us ++ v) f.2 ∙ append_assoc f.0 f.1 v, f.3, (g.0, g.1 ++ v, ap (λ us. us ++ v) g.2 ∙ append_assoc g.0 g.1 v, g.3, follow_and zs g.1 g.4))

-- what is no list, as a piece; what is no piece either, as an atom
abbrev is_sequence : SubNode → Bool
is_sequence (sub_sequence s t) = true
is_sequence _ = false

abbrev is_parallel : SubNode → Bool
is_parallel (sub_parallel s t) = true
is_parallel _ = false

true_false : true ≡ false → ⊥
true_false e = cc

tighter_piece : (calls : Bool) (u : SubNode) (ts : List Token) → is_sequence u ≡ false → View calls u → Stated calls u 0 ts → Stated calls u 1 ts
tighter_piece calls u ts n (inl p) h = absurd (true_false (ap is_sequence (sym p.2) ∙ n))
tighter_piece calls u ts n (inr (inl p)) h = let k : Stated calls (sub_parallel p.0 p.1) 0 ts = subst (λ x. Stated calls x 0 ts) p.2 h in subst (λ x. Stated calls x 1 ts) (sym p.2) (omega arith, k.1)
tighter_piece calls u ts n (inr (inr (inl c))) h = subst (λ x. Stated calls x 1 ts) (sym c.3) (subst (λ x. Stated calls x 0 ts) c.3 h)
tighter_piece calls u ts n (inr (inr (inr a))) h = a.anywhere 0 1 ts h

tighter_atom : (calls : Bool) (u : SubNode) (ts : List Token) → is_parallel u ≡ false → View calls u → Stated calls u 1 ts → Stated calls u 2 ts
tighter_atom calls u ts n (inl p) h = let k : Stated calls (sub_sequence p.0 p.1) 1 ts = subst (λ x. Stated calls x 1 ts) p.2 h in absurd (omega (arith, k.0))
tighter_atom calls u ts n (inr (inl p)) h = absurd (true_false (ap is_parallel (sym p.2) ∙ n))
tighter_atom calls u ts n (inr (inr (inl c))) h = subst (λ x. Stated calls x 2 ts) (sym c.3) (subst (λ x. Stated calls x 1 ts) c.3 h)
tighter_atom calls u ts n (inr (inr (inr a))) h = a.anywhere 1 2 ts h

single : (Part : SubTree → Piece) (op : ℕ) (s : SubTree) (ts : List Token) → Part s ts → (xs : List SubTree) × Row Part op xs ts
single Part op s ts h = (s ∷ [], (ts, [], sym (append-nil ts), h, refl))

pub row_of_sequence : (calls : Bool) (s : SubTree) (ts : List Token) → Sub calls s 0 ts → (xs : List SubTree) × Row (λ t. Sub calls t 1) SEMICOLON xs ts
row_of_sequence calls (sub at (sub_sequence s t)) ts h =
    let k = h.4.1 in
    let r = row_of_sequence calls s k.0 k.3 in
    (r.0 ++ t ∷ [], subst (Row (λ t. Sub calls t 1) SEMICOLON (r.0 ++ t ∷ [])) (sym k.2) (row_and SEMICOLON (λ t. Sub calls t 1) r.0 t k.0 k.1 r.1 k.4))
row_of_sequence calls (sub at u) ts h = single (λ t. Sub calls t 1) SEMICOLON (sub at u) ts (h.0, h.1, h.2, h.3, tighter_piece calls u ts refl (view calls u) h.4)

pub row_of_parallel : (calls : Bool) (s : SubTree) (ts : List Token) → Sub calls s 1 ts → (xs : List SubTree) × Row (λ t. Sub calls t 2) PARALLEL xs ts
row_of_parallel calls (sub at (sub_parallel s t)) ts h =
    let k = h.4.1 in
    let r = row_of_parallel calls s k.0 k.3 in
    (r.0 ++ t ∷ [], subst (Row (λ t. Sub calls t 2) PARALLEL (r.0 ++ t ∷ [])) (sym k.2) (row_and PARALLEL (λ t. Sub calls t 2) r.0 t k.0 k.1 r.1 k.4))
row_of_parallel calls (sub at u) ts h = single (λ t. Sub calls t 2) PARALLEL (sub at u) ts (h.0, h.1, h.2, h.3, tighter_atom calls u ts refl (view calls u) h.4)

pub sequence_longest : (calls : Bool) (tokens rest : List Token) (x : SubTree) (xs : List SubTree) → Longest (Row (λ t. Sub calls t 1) SEMICOLON) tokens (x ∷ xs) rest → Longest (λ s. Sub calls s 0) tokens (joined sub_sequence x xs) rest
sequence_longest calls tokens rest x xs h = longest_as (Row (λ t. Sub calls t 1) SEMICOLON) (λ s. Sub calls s 0) tokens rest (x ∷ xs) (joined sub_sequence x xs) h (row_spells calls SEMICOLON 0 sub_sequence (joins_sequence calls) x xs) (row_of_sequence calls)

pub parallel_longest : (calls : Bool) (tokens rest : List Token) (x : SubTree) (xs : List SubTree) → Longest (Row (λ t. Sub calls t 2) PARALLEL) tokens (x ∷ xs) rest → Longest (λ s. Sub calls s 1) tokens (joined sub_parallel x xs) rest
parallel_longest calls tokens rest x xs h = longest_as (Row (λ t. Sub calls t 2) PARALLEL) (λ s. Sub calls s 1) tokens rest (x ∷ xs) (joined sub_parallel x xs) h (row_spells calls PARALLEL 1 sub_parallel (joins_parallel calls) x xs) (row_of_parallel calls)

pub sequence_nothing : (calls : Bool) (tokens : List Token) → Nothing (Row (λ t. Sub calls t 1) SEMICOLON) tokens → Nothing (λ s. Sub calls s 0) tokens
sequence_nothing calls tokens n = nothing_as (Row (λ t. Sub calls t 1) SEMICOLON) (λ s. Sub calls s 0) tokens n (row_of_sequence calls)

pub parallel_nothing : (calls : Bool) (tokens : List Token) → Nothing (Row (λ t. Sub calls t 2) PARALLEL) tokens → Nothing (λ s. Sub calls s 1) tokens
parallel_nothing calls tokens n = nothing_as (Row (λ t. Sub calls t 2) PARALLEL) (λ s. Sub calls s 1) tokens n (row_of_parallel calls)
