-- Entries with semicolons between, as the code reads them.
use Rattle.std.specs.Prelude.{◌≡◌, ◌<◌, true, false, List, [], ◌∷◌, ◌++◌, length, refl}
use Rattle.std.proofs.Common.{arith, ap}
use Rattle.bk_form.specs.declared.token.Token.{Token}
use Rattle.bk_form.specs.declared.token.TokenKind.TheVariants.{Sign}
use Rattle.bk_ops.specs.declared.sign.TheConstants.{SEMICOLON}
use Rattle.bk_raw.specs.Grammar.Pieces.{Divided}
use Rattle.bk_raw.specs.Grammar.Spelling.{Term}
use Rattle.bk_raw.specs.Trees.RawTree.{RawTree}
use Rattle.bk_raw.specs.Grammar.ComponentSpelling.{Operation, Value}
use Rattle.bk_raw.specs.Trees.ComponentTree.{ClauseParts, clause_sets, clause_operations, clause_values, RawOperation, RawSet}
use Rattle.bk_raw.specs.declared.component.ClauseWord.TheVariants.{Operations, Sets, Values}
use Rattle.bk_raw.specs.declared.component.RawValue.{RawValue}
use Rattle.bk_raw.proofs.ClauseOne.{one-parts}
use Rattle.bk_raw.proofs.ClauseRuns.{ends_division, set-leads}
use Rattle.bk_raw.proofs.Exact.{one_for_its_tokens}
use Rattle.bk_raw.proofs.Steps.{Piece, Leads}
use Rattle.bk_p_expr.specs.Fronts.{Longest, Nothing}
use Rattle.bk_p_sub.specs.Found.{Ahead, NotAhead}
use Rattle.bk_p_sub.proofs.Rows.{Row, RowSoFar, row_begins, row_goes_on, row_ends, row_ends_before, row_none, longest_as, nothing_as, row_of_divided, divided_of_row}
use Rattle.bk_p_comp.specs.Entries.{CompleteSet}

-- as far as they are read: what is kept is that of the entries
pub record EntriesSoFar {A B : Type 0} (Part : A → Piece) (Kept : List A → B → Type 0) (tokens : List Token) (all : B) (rest : List Token) : Type 0 where
  pub entries : List A
  pub row : RowSoFar Part SEMICOLON tokens entries rest
  pub kept : Kept entries all
  pub shorter : length rest < length tokens

-- what the answer is
abbrev pub FoundEntries : {A B : Type 0} → (A → Piece) → (List A → B → Type 0) → List Token → B → List Token → Type 0
FoundEntries {A} Part Kept tokens all rest = (xs : List A) × Longest (Divided SEMICOLON Part) tokens xs rest × Kept xs all

module _ {A B : Type 0} (Part : A → Piece) (Kept : List A → B → Type 0) (leads : (x : A) → Leads ends_division (0, false) (0, true) (Part x)) (one : (x y : A) (ts : List Token) → Part x ts → Part y ts → x ≡ y) where
  pub entries_begin : (tokens rest : List Token) (x : A) (all : B) → Longest Part tokens x rest → Kept (x ∷ []) all → length rest < length tokens → EntriesSoFar Part Kept tokens all rest
  entries_begin tokens rest x all h k l = record { entries = x ∷ []; row = row_begins Part SEMICOLON ends_division leads one refl tokens rest x h; kept = k; shorter = l }

  pub entries_go_on : (tokens ts more rest : List Token) (x : A) (all new : B) → (s : EntriesSoFar Part Kept tokens all ts) → Ahead (Sign SEMICOLON) ts more → Longest Part more x rest → ((xs : List A) → Kept xs all → Kept (xs ++ x ∷ []) new) → length rest < length more → EntriesSoFar Part Kept tokens new rest
  entries_go_on tokens ts more rest x all new s a h f l = record {
    entries = s.entries ++ x ∷ [];
    row = row_goes_on Part SEMICOLON ends_division leads one refl tokens ts more rest a.0 s.entries x s.row a.1 a.2 h;
    kept = f s.entries s.kept;
    shorter = omega (arith, s.shorter, l, ap length a.1);
  }

  divided : (tokens rest : List Token) (xs : List A) → Longest (Row Part SEMICOLON) tokens xs rest → Longest (Divided SEMICOLON Part) tokens xs rest
  divided tokens rest xs h = longest_as (Row Part SEMICOLON) (Divided SEMICOLON Part) tokens rest xs xs h (λ ts k. divided_of_row Part SEMICOLON xs ts k) (λ ys ts k. (ys, row_of_divided Part SEMICOLON ys ts k))

  pub entries_end : (tokens rest : List Token) (all : B) → EntriesSoFar Part Kept tokens all rest → NotAhead (Sign SEMICOLON) rest → FoundEntries Part Kept tokens all rest
  entries_end tokens rest all s n = (s.entries, divided tokens rest s.entries (row_ends Part SEMICOLON ends_division leads one refl tokens rest s.entries s.row n), s.kept)

  pub entries_end_before : (tokens rest more : List Token) (all : B) → EntriesSoFar Part Kept tokens all rest → Ahead (Sign SEMICOLON) rest more → Nothing Part more → FoundEntries Part Kept tokens all rest
  entries_end_before tokens rest more all s a n = (s.entries, divided tokens rest s.entries (row_ends_before Part SEMICOLON ends_division leads one refl tokens rest more a.0 s.entries s.row a.1 n), s.kept)

pub entries_fail : {A : Type 0} (Part : A → Piece) (tokens : List Token) → Nothing Part tokens → Nothing (Divided SEMICOLON Part) tokens
entries_fail Part tokens n = nothing_as (Row Part SEMICOLON) (Divided SEMICOLON Part) tokens (row_none Part SEMICOLON tokens n) (λ ys ts k. (ys, row_of_divided Part SEMICOLON ys ts k))

-- ---- each kind of entry
abbrev sets_in : ClauseParts → List RawSet
sets_in (clause_sets ss) = ss
sets_in _ = []

abbrev values_in : ClauseParts → List RawValue
values_in (clause_values vs) = vs
values_in _ = []

abbrev operations_in : ClauseParts → List RawOperation
operations_in (clause_operations os) = os
operations_in _ = []

same_only : {A : Type 0} (x y : A) → x ∷ [] ≡ y ∷ [] → x ≡ y
same_only x y e = cc

pub complete_leads : (s : RawSet) → Leads ends_division (0, false) (0, true) (CompleteSet s)
complete_leads s ts h = set-leads s ts h.0

pub one_complete : (s r : RawSet) (ts : List Token) → CompleteSet s ts → CompleteSet r ts → s ≡ r
one_complete s r ts h k = same_only s r (ap sets_in (one-parts Sets (clause_sets (s ∷ [])) (clause_sets (r ∷ [])) ts h.0 k.0))

pub one_value : (v w : RawValue) (ts : List Token) → Value v ts → Value w ts → v ≡ w
one_value v w ts h k = same_only v w (ap values_in (one-parts Values (clause_values (v ∷ [])) (clause_values (w ∷ [])) ts h k))

pub one_operation : (o p : RawOperation) (ts : List Token) → Operation o ts → Operation p ts → o ≡ p
one_operation o p ts h k = same_only o p (ap operations_in (one-parts Operations (clause_operations (o ∷ [])) (clause_operations (p ∷ [])) ts h k))

pub one_term : (t u : RawTree) (ts : List Token) → Term t 0 ts → Term u 0 ts → t ≡ u
one_term t u ts h k = one_for_its_tokens ts t u h k
