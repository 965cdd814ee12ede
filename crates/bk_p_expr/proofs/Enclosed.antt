-- What stands between a bracket and the sign that closes it.
use Rattle.std.specs.Prelude.{◌≡◌, ℕ, ◌<◌, ◌≤◌, Bool, true, false, cond, List, length, Option, None, Some, MatchOption, IfSome, refl}
use Rattle.std.proofs.Common.{arith, sym, subst, ◌∙◌}
use denote.Ref.{Bor}
use Rattle.bk_form.specs.declared.token.Token.{Token}
use Rattle.bk_ops.specs.declared.sign.TheConstants.{COMMA, CLOSE_PAREN}
use Rattle.bk_raw.specs.Trees.RawTree.{RawTree, raw, raw_pair}
use Rattle.bk_raw.specs.Grammar.Reading.{next, sign, start, begins_with, within, chain, arguments, read}
use Rattle.bk_p_expr.specs.Openings.{sign_of, form_of, divider_in, placed, divided, enclosed}
use Rattle.bk_p_expr.specs.Pieces.{IsPiece}
use Rattle.bk_p_expr.specs.Found.{Finds, FindsNone, Closes}
use Rattle.bk_p_expr.specs.declared.divider.Divider.{Divider}
use Rattle.bk_p_expr.specs.declared.divider.Divider.TheVariants.{Comma}
use Rattle.bk_p_expr.specs.declared.divider.Inside.{Inside}
use Rattle.bk_p_expr.specs.declared.divider.Inside.TheVariants.{Term, Arguments}
use Rattle.bk_p_expr.specs.declared.piece.Piece.{Piece}
use Rattle.bk_p_expr.proofs.Choices.{next_found, next_fails, next_under}
use Rattle.bk_p_expr.proofs.Lists.{ChainSoFar, chain_begins, chain_goes_on, chain_fails, chain_ends, chain_stops}

-- ---- what the reader calls so
-- a term between two signs
pub within_is : (n first last : ℕ) (ts : List Token) (t : Token) (us : List Token) → sign first ts ≡ Some (t, us) → within first last (read n 0) ts ≡ enclosed n Term last us
within_is n first last ts t us a = next_found (sign first ts) t us (λ _ us. next (read n 0 us) (λ x vs. next (sign last vs) (λ _ ws. Some (x, ws)))) a

arguments_by : (n : ℕ) (b : Bool) (r : Option (RawTree × List Token)) (at : ℕ) (x : RawTree) (us : List Token) → chain n (read n) COMMA raw_pair at x us ≡ r → (b ≡ false → r ≡ Some (x, us)) → next r (λ y vs. next (sign CLOSE_PAREN vs) (λ _ ws. Some (y, ws))) ≡ next (divided n Arguments (cond b (Some Comma) None) at x us) (λ y vs. next (sign CLOSE_PAREN vs) (λ _ ws. Some (y, ws)))
arguments_by n true None at x us e h = λ i. next (next (sym e i) (λ y vs. Some (y, vs))) (λ y vs. next (sign CLOSE_PAREN vs) (λ _ ws. Some (y, ws)))
arguments_by n true (Some p) at x us e h = λ i. next (next (sym e i) (λ y vs. Some (y, vs))) (λ y vs. next (sign CLOSE_PAREN vs) (λ _ ws. Some (y, ws)))
arguments_by n false r at x us e h = λ i. next (h refl i) (λ y vs. next (sign CLOSE_PAREN vs) (λ _ ws. Some (y, ws)))

-- the arguments of a function
pub arguments_is : (n : ℕ) (ts : List Token) → arguments n (read n) ts ≡ enclosed n Arguments CLOSE_PAREN ts
arguments_is n ts = next_under (read n 0 ts) (λ x us. next (chain n (read n) COMMA raw_pair (start ts) x us) (λ y vs. next (sign CLOSE_PAREN vs) (λ _ ws. Some (y, ws)))) (λ r. r) (λ x us. next (divided n Arguments (divider_in Arguments us) (start ts) x us) (λ y vs. next (sign CLOSE_PAREN vs) (λ _ ws. Some (y, ws)))) refl (λ x us. arguments_by n (begins_with COMMA us) (chain n (read n) COMMA raw_pair (start ts) x us) (start ts) x us refl (λ b. chain_stops n n COMMA raw_pair (start ts) x us b))

-- ---- the sign that closes
pub closes : (reader : ℕ → Option (RawTree × List Token)) (least end : ℕ) (tree : RawTree) (piece : Piece) (rest : List Token) (r : Option (Piece × Bor (List Token))) → ((n : ℕ) → least ≤ n → reader n ≡ next (sign end rest) (λ _ us. Some (tree, us))) → IsPiece tree piece → Closes end rest r → IfSome r (λ p. p.0 ≡ piece) → MatchOption r (FindsNone reader least) (λ p. Finds reader least (λ t. t) p.0 p.1.now)
closes reader least end tree piece rest None h b c s = λ n m. h n m ∙ next_fails (sign end rest) (λ _ us. Some (tree, us)) c
closes reader least end tree piece rest (Some p) h b c s = record { tree = tree; found = λ n m. h n m ∙ next_found (sign end rest) c.0 p.1.now (λ _ us. Some (tree, us)) c.1; built = subst (λ q. IsPiece tree q) (sym s) b }

-- ---- the loop
pub record EnclosedSoFar (inside : Inside) (ts : List Token) (d : Divider) (at : ℕ) (left : Piece) (rest : List Token) : Type 0 where
  pub first : RawTree
  pub behind : List Token
  pub reads : (n : ℕ) → length ts ≤ n → read n 0 ts ≡ Some (first, behind)
  pub divides : divider_in inside behind ≡ Some d
  pub chained : ChainSoFar (sign_of d) (form_of d) at first behind left rest
  pub starts : at ≡ start ts
  pub fewer : length behind < length ts
  pub shorter : length rest < length ts

pub enclosed_begins : (inside : Inside) (ts : List Token) (d : Divider) (at : ℕ) (first : Piece) (after : List Token) → Finds (λ n. read n 0 ts) (length ts) (λ x. x) first after → length after < length ts → divider_in inside after ≡ Some d → at ≡ start ts → EnclosedSoFar inside ts d at first after
enclosed_begins inside ts d at first after f l e s = record { first = f.tree; behind = after; reads = f.found; divides = e; chained = chain_begins (sign_of d) (form_of d) at f.tree after first f.built; starts = s; fewer = l; shorter = l }

pub enclosed_goes_on : (inside : Inside) (ts : List Token) (d : Divider) (at : ℕ) (left : Piece) (rest : List Token) (t : Token) (us : List Token) (right : Piece) (after : List Token) (new : Piece) → EnclosedSoFar inside ts d at left rest → begins_with (sign_of d) rest ≡ true → sign (sign_of d) rest ≡ Some (t, us) → length us < length rest → Finds (λ n. read n 0 us) (length us) (λ x. x) right after → length after < length us → ((a b : RawTree) → IsPiece a left → IsPiece b right → IsPiece (raw at (form_of d a b)) new) → EnclosedSoFar inside ts d at new after
enclosed_goes_on inside ts d at left rest t us right after new s b e l f r h = record { first = s.first; behind = s.behind; reads = s.reads; divides = s.divides; chained = chain_goes_on (sign_of d) (form_of d) at s.first s.behind left rest t us right after new s.chained b e l f r h; starts = s.starts; fewer = s.fewer; shorter = omega (arith, l, r, s.shorter) }

-- behind the first term
enclosed_read : (n : ℕ) (inside : Inside) (end : ℕ) (ts : List Token) (x : RawTree) (us : List Token) (d : Option Divider) → read n 0 ts ≡ Some (x, us) → divider_in inside us ≡ d → enclosed n inside end ts ≡ next (divided n inside d (start ts) x us) (λ y vs. next (sign end vs) (λ _ ws. Some (y, ws)))
enclosed_read n inside end ts x us d e f = next_found (read n 0 ts) x us (λ first us. next (divided n inside (divider_in inside us) (start ts) first us) (λ y vs. next (sign end vs) (λ _ ws. Some (y, ws)))) e ∙ (λ i. next (divided n inside (f i) (start ts) x us) (λ y vs. next (sign end vs) (λ _ ws. Some (y, ws))))

pub enclosed_none : (inside : Inside) (end : ℕ) (ts : List Token) → FindsNone (λ n. read n 0 ts) (length ts) → FindsNone (λ n. enclosed n inside end ts) (length ts)
enclosed_none inside end ts f n m = next_fails (read n 0 ts) (λ first us. next (divided n inside (divider_in inside us) (start ts) first us) (λ y vs. next (sign end vs) (λ _ ws. Some (y, ws)))) (f n m)

-- one term alone
pub enclosed_alone : (inside : Inside) (end : ℕ) (ts : List Token) (first : Piece) (after : List Token) (r : Option (Piece × Bor (List Token))) → Finds (λ n. read n 0 ts) (length ts) (λ x. x) first after → divider_in inside after ≡ None → Closes end after r → IfSome r (λ p. p.0 ≡ first) → MatchOption r (FindsNone (λ n. enclosed n inside end ts) (length ts)) (λ p. Finds (λ n. enclosed n inside end ts) (length ts) (λ t. t) p.0 p.1.now)
enclosed_alone inside end ts first after r f e c s = closes (λ n. enclosed n inside end ts) (length ts) end f.tree first after r (λ n m. enclosed_read n inside end ts f.tree after None (f.found n m) e) f.built c s

-- a term behind a divider is missing
pub enclosed_fails : (inside : Inside) (end : ℕ) (ts : List Token) (d : Divider) (at : ℕ) (left : Piece) (rest : List Token) (t : Token) (us : List Token) → EnclosedSoFar inside ts d at left rest → begins_with (sign_of d) rest ≡ true → sign (sign_of d) rest ≡ Some (t, us) → length us < length rest → FindsNone (λ n. read n 0 us) (length us) → FindsNone (λ n. enclosed n inside end ts) (length ts)
enclosed_fails inside end ts d at left rest t us s b e l f n m =
    let g : chain n (read n) (sign_of d) (form_of d) at s.first s.behind ≡ None = chain_fails (sign_of d) (form_of d) at s.first s.behind left rest t us s.chained b e l f n (omega (arith, s.fewer, m)) in
    enclosed_read n inside end ts s.first s.behind (Some d) (s.reads n m) s.divides ∙ (λ i. next (next (chain n (read n) (sign_of d) (form_of d) (sym s.starts i) s.first s.behind) (λ x us. Some (placed inside x, us))) (λ y vs. next (sign end vs) (λ _ ws. Some (y, ws)))) ∙ (λ i. next (next (g i) (λ x us. Some (placed inside x, us))) (λ y vs. next (sign end vs) (λ _ ws. Some (y, ws))))

-- no further divider follows
pub enclosed_ends : (inside : Inside) (end : ℕ) (ts : List Token) (d : Divider) (at : ℕ) (left : Piece) (rest : List Token) (whole : Piece) (r : Option (Piece × Bor (List Token))) → EnclosedSoFar inside ts d at left rest → begins_with (sign_of d) rest ≡ false → ((tree : RawTree) → IsPiece tree left → IsPiece (placed inside tree) whole) → Closes end rest r → IfSome r (λ p. p.0 ≡ whole) → MatchOption r (FindsNone (λ n. enclosed n inside end ts) (length ts)) (λ p. Finds (λ n. enclosed n inside end ts) (length ts) (λ t. t) p.0 p.1.now)
enclosed_ends inside end ts d at left rest whole r s b h c q =
    let f : Finds (λ n. chain n (read n) (sign_of d) (form_of d) at s.first s.behind) (length s.behind) (λ x. x) left rest = chain_ends (sign_of d) (form_of d) at s.first s.behind left rest s.chained b in
    closes (λ n. enclosed n inside end ts) (length ts) end (placed inside f.tree) whole rest r (λ n m. (
    let g : chain n (read n) (sign_of d) (form_of d) at s.first s.behind ≡ Some (f.tree, rest) = f.found n (omega (arith, s.fewer, m)) in
    enclosed_read n inside end ts s.first s.behind (Some d) (s.reads n m) s.divides ∙ (λ i. next (next (chain n (read n) (sign_of d) (form_of d) (sym s.starts i) s.first s.behind) (λ x us. Some (placed inside x, us))) (λ y vs. next (sign end vs) (λ _ ws. Some (y, ws)))) ∙ (λ i. next (next (g i) (λ x us. Some (placed inside x, us))) (λ y vs. next (sign end vs) (λ _ ws. Some (y, ws)))))) (h f.tree f.built) c q
