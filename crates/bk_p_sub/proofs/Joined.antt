-- Substitutions with a sign between, as the code joins them.
use Rattle.std.specs.Prelude.{Bool, ◌≡◌, ℕ, ◌<◌, true, false, List, [], ◌∷◌, ◌++◌, length, None, refl}
use Rattle.std.proofs.Common.{arith, sym, ap, ◌∙◌, subst}
use Rattle.bk_form.specs.declared.token.Token.{Token}
use Rattle.bk_form.specs.declared.token.TokenKind.TheVariants.{Sign}
use Rattle.bk_ops.specs.declared.sign.TheConstants.{SEMICOLON, PARALLEL}
use Rattle.bk_raw.specs.Grammar.Reading.{start}
use Rattle.bk_raw.specs.Trees.SubTree.{SubTree, sub, SubNode, sub_parallel, sub_sequence}
use Rattle.bk_raw.specs.Grammar.SubSpelling.{Sub}
use Rattle.bk_raw.proofs.Steps.{Stopper, stepped, Leads}
use Rattle.bk_raw.proofs.SubParts.{ends_piece, ends_atom}
use Rattle.bk_raw.proofs.SubRuns.{sub-leads}
use Rattle.bk_raw.proofs.SubOne.{one-sub}
use Rattle.bk_p_expr.specs.Fronts.{Longest, Nothing}
use Rattle.bk_p_sub.specs.Found.{Ahead, NotAhead}
use Rattle.bk_p_sub.specs.Statements.{IsStatement}
use Rattle.bk_p_sub.specs.declared.statement.Statement.{Statement}
use Rattle.bk_p_sub.proofs.Rows.{RowSoFar, row_begins, row_goes_on, row_ends, row_ends_before, row_none}
use Rattle.bk_p_sub.proofs.Lists.{joined, joined_more, joined_starts, starts_at, sequence_longest, parallel_longest, sequence_nothing, parallel_nothing}

-- as far as they are read: the statement so far is that of what is read, up to the rest
pub record JoinedSoFar (calls : Bool) (m op : ℕ) (make : SubTree → SubTree → SubNode) (tokens : List Token) (left : Statement) (rest : List Token) : Type 0 where
  pub head : SubTree
  pub others : List SubTree
  pub row : RowSoFar (λ (s : SubTree). Sub calls s m) op tokens (head ∷ others) rest
  pub built : IsStatement (joined make head others) left
  pub starts : starts_at head ≡ start tokens
  pub shorter : length rest < length tokens

started : (calls : Bool) (m : ℕ) (s : SubTree) (tokens rest : List Token) → Longest (λ (s : SubTree). Sub calls s m) tokens s rest → starts_at s ≡ start tokens
started calls m (sub at u) tokens rest h = let k = h.spelled in sym (ap start h.splits ∙ ap (λ us. start (us ++ rest)) k.2 ∙ k.3)

module _ (calls : Bool) (m op : ℕ) (make : SubTree → SubTree → SubNode) (stops : Stopper) (leads : (s : SubTree) → Leads stops (0, false) (0, true) (Sub calls s m)) (halts : stepped stops 0 true (Sign op) ≡ None) where
  one : (s t : SubTree) (ts : List Token) → Sub calls s m ts → Sub calls t m ts → s ≡ t
  one s t ts h k = one-sub calls s m t ts h k

  pub joined_begins : (tokens rest : List Token) (s : SubTree) (statement : Statement) → Longest (λ (s : SubTree). Sub calls s m) tokens s rest → IsStatement s statement → length rest < length tokens → JoinedSoFar calls m op make tokens statement rest
  joined_begins tokens rest s statement h b l = record { head = s; others = []; row = row_begins (λ (s : SubTree). Sub calls s m) op stops leads one halts tokens rest s h; built = b; starts = started calls m s tokens rest h; shorter = l }

  pub joined_goes_on : (tokens ts more rest : List Token) (left right new : Statement) (t : SubTree) (at : ℕ) → JoinedSoFar calls m op make tokens left ts → Ahead (Sign op) ts more → Longest (λ (s : SubTree). Sub calls s m) more t rest → IsStatement t right → length rest < length more → at ≡ start tokens → ((a b : SubTree) → IsStatement a left → IsStatement b right → IsStatement (sub at (make a b)) new) → JoinedSoFar calls m op make tokens new rest
  joined_goes_on tokens ts more rest left right new t at s a h b l e f = record {
    head = s.head;
    others = s.others ++ t ∷ [];
    row = row_goes_on (λ (s : SubTree). Sub calls s m) op stops leads one halts tokens ts more rest a.0 (s.head ∷ s.others) t s.row a.1 a.2 h;
    built = subst (λ x. IsStatement x new) ((λ i. sub ((e ∙ sym (joined_starts make s.head s.others ∙ s.starts)) i) (make (joined make s.head s.others) t)) ∙ sym (joined_more make s.head s.others t)) (f (joined make s.head s.others) t s.built b);
    starts = s.starts;
    shorter = omega (arith, s.shorter, l, ap length a.1);
  }

pub semicolons_begin : (calls : Bool) (tokens rest : List Token) (s : SubTree) (statement : Statement) → Longest (λ (s : SubTree). Sub calls s 1) tokens s rest → IsStatement s statement → length rest < length tokens → JoinedSoFar calls 1 SEMICOLON sub_sequence tokens statement rest
semicolons_begin calls = joined_begins calls 1 SEMICOLON sub_sequence ends_piece (λ s. sub-leads calls s 1) refl

pub semicolons_go_on : (calls : Bool) (tokens ts more rest : List Token) (left right new : Statement) (t : SubTree) (at : ℕ) → JoinedSoFar calls 1 SEMICOLON sub_sequence tokens left ts → Ahead (Sign SEMICOLON) ts more → Longest (λ (s : SubTree). Sub calls s 1) more t rest → IsStatement t right → length rest < length more → at ≡ start tokens → ((a b : SubTree) → IsStatement a left → IsStatement b right → IsStatement (sub at (sub_sequence a b)) new) → JoinedSoFar calls 1 SEMICOLON sub_sequence tokens new rest
semicolons_go_on calls = joined_goes_on calls 1 SEMICOLON sub_sequence ends_piece (λ s. sub-leads calls s 1) refl

pub semicolons_end : (calls : Bool) (tokens rest : List Token) (left : Statement) → JoinedSoFar calls 1 SEMICOLON sub_sequence tokens left rest → NotAhead (Sign SEMICOLON) rest → (s : SubTree) × Longest (λ (s : SubTree). Sub calls s 0) tokens s rest × IsStatement s left
semicolons_end calls tokens rest left s n = (joined sub_sequence s.head s.others, sequence_longest calls tokens rest s.head s.others (row_ends (λ (s : SubTree). Sub calls s 1) SEMICOLON ends_piece (λ s. sub-leads calls s 1) (λ s t ts h k. one-sub calls s 1 t ts h k) refl tokens rest (s.head ∷ s.others) s.row n), s.built)

pub semicolons_end_before : (calls : Bool) (tokens rest more : List Token) (left : Statement) → JoinedSoFar calls 1 SEMICOLON sub_sequence tokens left rest → Ahead (Sign SEMICOLON) rest more → Nothing (λ (s : SubTree). Sub calls s 1) more → (s : SubTree) × Longest (λ (s : SubTree). Sub calls s 0) tokens s rest × IsStatement s left
semicolons_end_before calls tokens rest more left s a n = (joined sub_sequence s.head s.others, sequence_longest calls tokens rest s.head s.others (row_ends_before (λ (s : SubTree). Sub calls s 1) SEMICOLON ends_piece (λ s. sub-leads calls s 1) (λ s t ts h k. one-sub calls s 1 t ts h k) refl tokens rest more a.0 (s.head ∷ s.others) s.row a.1 n), s.built)

pub semicolons_fail : (calls : Bool) (tokens : List Token) → Nothing (λ (s : SubTree). Sub calls s 1) tokens → Nothing (λ (s : SubTree). Sub calls s 0) tokens
semicolons_fail calls tokens n = sequence_nothing calls tokens (row_none (λ (s : SubTree). Sub calls s 1) SEMICOLON tokens n)

pub bars_begin : (calls : Bool) (tokens rest : List Token) (s : SubTree) (statement : Statement) → Longest (λ (s : SubTree). Sub calls s 2) tokens s rest → IsStatement s statement → length rest < length tokens → JoinedSoFar calls 2 PARALLEL sub_parallel tokens statement rest
bars_begin calls = joined_begins calls 2 PARALLEL sub_parallel ends_atom (λ s. sub-leads calls s 2) refl

pub bars_go_on : (calls : Bool) (tokens ts more rest : List Token) (left right new : Statement) (t : SubTree) (at : ℕ) → JoinedSoFar calls 2 PARALLEL sub_parallel tokens left ts → Ahead (Sign PARALLEL) ts more → Longest (λ (s : SubTree). Sub calls s 2) more t rest → IsStatement t right → length rest < length more → at ≡ start tokens → ((a b : SubTree) → IsStatement a left → IsStatement b right → IsStatement (sub at (sub_parallel a b)) new) → JoinedSoFar calls 2 PARALLEL sub_parallel tokens new rest
bars_go_on calls = joined_goes_on calls 2 PARALLEL sub_parallel ends_atom (λ s. sub-leads calls s 2) refl

pub bars_end : (calls : Bool) (tokens rest : List Token) (left : Statement) → JoinedSoFar calls 2 PARALLEL sub_parallel tokens left rest → NotAhead (Sign PARALLEL) rest → (s : SubTree) × Longest (λ (s : SubTree). Sub calls s 1) tokens s rest × IsStatement s left
bars_end calls tokens rest left s n = (joined sub_parallel s.head s.others, parallel_longest calls tokens rest s.head s.others (row_ends (λ (s : SubTree). Sub calls s 2) PARALLEL ends_atom (λ s. sub-leads calls s 2) (λ s t ts h k. one-sub calls s 2 t ts h k) refl tokens rest (s.head ∷ s.others) s.row n), s.built)

pub bars_end_before : (calls : Bool) (tokens rest more : List Token) (left : Statement) → JoinedSoFar calls 2 PARALLEL sub_parallel tokens left rest → Ahead (Sign PARALLEL) rest more → Nothing (λ (s : SubTree). Sub calls s 2) more → (s : SubTree) × Longest (λ (s : SubTree). Sub calls s 1) tokens s rest × IsStatement s left
bars_end_before calls tokens rest more left s a n = (joined sub_parallel s.head s.others, parallel_longest calls tokens rest s.head s.others (row_ends_before (λ (s : SubTree). Sub calls s 2) PARALLEL ends_atom (λ s. sub-leads calls s 2) (λ s t ts h k. one-sub calls s 2 t ts h k) refl tokens rest more a.0 (s.head ∷ s.others) s.row a.1 n), s.built)

pub bars_fail : (calls : Bool) (tokens : List Token) → Nothing (λ (s : SubTree). Sub calls s 2) tokens → Nothing (λ (s : SubTree). Sub calls s 1) tokens
bars_fail calls tokens n = parallel_nothing calls tokens (row_none (λ (s : SubTree). Sub calls s 2) PARALLEL tokens n)
