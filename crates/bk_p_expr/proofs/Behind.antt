-- What is read behind the opening of a term.
use Rattle.std.specs.Prelude.{◌≡◌, ℕ, ◌<◌, ◌≤◌, true, false, cond, List, length, Option, None, Some, Result, Ok, Err, MatchOption, IfSome, refl}
use Rattle.std.proofs.Common.{arith, sym, subst, ◌∙◌}
use denote.Ref.{Bor}
use Rattle.bk_form.specs.declared.token.Token.{Token}
use Rattle.bk_ops.specs.declared.sign.TheConstants.{CLOSE_PAREN, CLOSE_BRACE, BAR, INVERSE, OPEN_BRACKET, CLOSE_BRACKET, OPEN_PAREN}
use Rattle.bk_raw.specs.Trees.RawTree.{RawTree, raw, RawTreeNode, RawTrees, RawRanges, raw_inverse, raw_image, raw_apply, raw_extension, raw_ranged_comprehension, raw_ranged_lambda}
use Rattle.bk_raw.specs.Grammar.Reading.{next, sign, begins_with, within, arguments, terms, ranges, read}
use Rattle.bk_p_expr.specs.Openings.{enclosed, surrounded, listed, ranged, dot_paren, valued, described, valued_over, suffixed}
use Rattle.bk_p_expr.specs.Pieces.{IsPiece, IsTerms, IsRanges}
use Rattle.bk_p_expr.specs.Found.{Finds, FindsNone, FindsRanges, FindsSuffix, SameFrom, Opens, Reads, Closes}
use Rattle.bk_p_expr.specs.declared.divider.Inside.TheVariants.{Term, Arguments}
use Rattle.bk_p_expr.specs.declared.opening.Opening.{Opening}
use Rattle.bk_p_expr.specs.declared.piece.Piece.{Piece}
use Rattle.bk_p_expr.specs.declared.piece.Terms.{Terms}
use Rattle.bk_p_expr.specs.declared.piece.Ranges.{Ranges}
use Rattle.bk_p_expr.specs.declared.terms.Suffix.TheVariants.{Inverse, Image, Apply}
use Rattle.bk_p_expr.proofs.Choices.{next_found, next_fails}
use Rattle.bk_p_expr.proofs.Lists.{TermsFound, RangesFound}
use Rattle.bk_p_expr.proofs.Enclosed.{within_is, arguments_is, closes}

-- the same answer by another name
pub passed : {E : Type 0} (whole other : ℕ → Option (RawTree × List Token)) (least less : ℕ) (r : Result (Option (Piece × Bor (List Token))) E) → less ≤ least → SameFrom least whole other → Reads other less r → Reads whole least r
passed whole other least less (Err e) l h k = tt
passed whole other least less (Ok None) l h k = λ n m. h n m ∙ k n (omega (arith, l, m))
passed whole other least less (Ok (Some p)) l h k = record { tree = k.tree; found = λ n m. h n m ∙ k.found n (omega (arith, l, m)); built = k.built }

-- the same opening, at the byte that the program knows
pub opened : (whole : ℕ → Option (RawTree × List Token)) (least at from : ℕ) (one other : Opening) (rest : List Token) → at ≡ from → one ≡ other → Opens whole least from one rest → Opens whole least at other rest
opened whole least at from one other rest e f h = subst (λ k. Opens whole least k other rest) (sym e) (subst (λ o. Opens whole least from o rest) f h)

-- ---- a term with a node around
pub around_none : (whole : ℕ → Option (RawTree × List Token)) (least at : ℕ) (form : RawTree → RawTreeNode) (end : ℕ) (ts : List Token) → length ts ≤ least → SameFrom least whole (λ n. surrounded n at form end ts) → FindsNone (λ n. enclosed n Term end ts) (length ts) → FindsNone whole least
around_none whole least at form end ts l s f n m = s n m ∙ next_fails (enclosed n Term end ts) (λ x us. Some (raw at (form x), us)) (f n (omega (arith, l, m)))

pub around_some : (whole : ℕ → Option (RawTree × List Token)) (least at : ℕ) (form : RawTree → RawTreeNode) (end : ℕ) (ts : List Token) (piece : Piece) (rest : List Token) (new : Piece) → length ts ≤ least → SameFrom least whole (λ n. surrounded n at form end ts) → Finds (λ n. enclosed n Term end ts) (length ts) (λ x. x) piece rest → ((tree : RawTree) → IsPiece tree piece → IsPiece (raw at (form tree)) new) → Finds whole least (λ x. x) new rest
around_some whole least at form end ts piece rest new l s f h = record { tree = raw at (form f.tree); found = λ n m. s n m ∙ next_found (enclosed n Term end ts) f.tree rest (λ x us. Some (raw at (form x), us)) (f.found n (omega (arith, l, m))); built = h f.tree f.built }

-- ---- a, b}
pub listed_none : (at : ℕ) (ts : List Token) → FindsNone (λ n. terms n (read n) ts) (length ts) → FindsNone (λ n. listed n at ts) (length ts)
listed_none at ts f n m = next_fails (terms n (read n) ts) (λ xs us. next (sign CLOSE_BRACE us) (λ _ vs. Some (raw at (raw_extension xs), vs))) (f n m)

pub listed_ends : (at : ℕ) (ts : List Token) (all : Terms) (rest : List Token) (new : Piece) (r : Option (Piece × Bor (List Token))) → TermsFound ts all rest → ((trees : RawTrees) → IsTerms trees all → IsPiece (raw at (raw_extension trees)) new) → Closes CLOSE_BRACE rest r → IfSome r (λ p. p.0 ≡ new) → MatchOption r (FindsNone (λ n. listed n at ts) (length ts)) (λ p. Finds (λ n. listed n at ts) (length ts) (λ t. t) p.0 p.1.now)
listed_ends at ts all rest new r f h c s = closes (λ n. listed n at ts) (length ts) CLOSE_BRACE (raw at (raw_extension f.trees)) new rest r (λ n m. next_found (terms n (read n) ts) f.trees rest (λ xs us. next (sign CLOSE_BRACE us) (λ _ vs. Some (raw at (raw_extension xs), vs))) (f.found n m)) (h f.trees f.built) c s

-- ---- $1:d,$2:e and the sign behind
pub ranged_none : (end : ℕ) (ts : List Token) → FindsNone (λ n. ranges n (read n) ts) (length ts) → FindsNone (λ n. ranged n end ts) (length ts)
ranged_none end ts f n m = next_fails (ranges n (read n) ts) (λ rs us. next (sign end us) (λ _ vs. Some (rs, vs))) (f n m)

pub ranged_none_last : (end : ℕ) (ts : List Token) (all : Ranges) (rest : List Token) → RangesFound ts all rest → sign end rest ≡ None → FindsNone (λ n. ranged n end ts) (length ts)
ranged_none_last end ts all rest f z n m = next_found (ranges n (read n) ts) f.trees rest (λ rs us. next (sign end us) (λ _ vs. Some (rs, vs))) (f.found n m) ∙ next_fails (sign end rest) (λ _ vs. Some (f.trees, vs)) z

pub ranged_some : (end : ℕ) (ts : List Token) (all : Ranges) (rest : List Token) (u : Token) (us : List Token) → RangesFound ts all rest → sign end rest ≡ Some (u, us) → FindsRanges ts end all us
ranged_some end ts all rest u us f z = record { trees = f.trees; found = λ n m. next_found (ranges n (read n) ts) f.trees rest (λ rs us. next (sign end us) (λ _ vs. Some (rs, vs))) (f.found n m) ∙ next_found (sign end rest) u us (λ _ vs. Some (f.trees, vs)) z; built = f.built }

-- ---- $1:d | p} of a set
pub described_none : (whole : ℕ → Option (RawTree × List Token)) (least at : ℕ) (ts : List Token) → length ts ≤ least → SameFrom least whole (λ n. described n at ts) → FindsNone (λ n. ranged n BAR ts) (length ts) → FindsNone whole least
described_none whole least at ts l s f n m = s n m ∙ next_fails (ranged n BAR ts) (λ rs us. surrounded n at (raw_ranged_comprehension rs) CLOSE_BRACE us) (f n (omega (arith, l, m)))

described_read : (whole : ℕ → Option (RawTree × List Token)) (least at : ℕ) (ts : List Token) (all : Ranges) (us : List Token) → length ts ≤ least → SameFrom least whole (λ n. described n at ts) → (f : FindsRanges ts BAR all us) → SameFrom least whole (λ n. surrounded n at (raw_ranged_comprehension f.trees) CLOSE_BRACE us)
described_read whole least at ts all us l s f n m = s n m ∙ next_found (ranged n BAR ts) f.trees us (λ rs us. surrounded n at (raw_ranged_comprehension rs) CLOSE_BRACE us) (f.found n (omega (arith, l, m)))

pub described_none_body : (whole : ℕ → Option (RawTree × List Token)) (least at : ℕ) (ts : List Token) (all : Ranges) (us : List Token) → length ts ≤ least → length us ≤ least → SameFrom least whole (λ n. described n at ts) → FindsRanges ts BAR all us → FindsNone (λ n. enclosed n Term CLOSE_BRACE us) (length us) → FindsNone whole least
described_none_body whole least at ts all us l q s f g = around_none whole least at (raw_ranged_comprehension f.trees) CLOSE_BRACE us q (described_read whole least at ts all us l s f) g

pub described_some : (whole : ℕ → Option (RawTree × List Token)) (least at : ℕ) (ts : List Token) (all : Ranges) (us : List Token) (piece : Piece) (rest : List Token) (new : Piece) → length ts ≤ least → length us ≤ least → SameFrom least whole (λ n. described n at ts) → FindsRanges ts BAR all us → Finds (λ n. enclosed n Term CLOSE_BRACE us) (length us) (λ x. x) piece rest → ((ranges : RawRanges) (p : RawTree) → IsRanges ranges all → IsPiece p piece → IsPiece (raw at (raw_ranged_comprehension ranges p)) new) → Finds whole least (λ x. x) new rest
described_some whole least at ts all us piece rest new l q s f g h = around_some whole least at (raw_ranged_comprehension f.trees) CLOSE_BRACE us piece rest new q (described_read whole least at ts all us l s f) g (λ p k. h f.trees p f.built k)

-- ---- a lambda
pub valued_over_none : (whole : ℕ → Option (RawTree × List Token)) (least at : ℕ) (ts : List Token) → length ts ≤ least → SameFrom least whole (λ n. valued_over n at ts) → FindsNone (λ n. ranged n CLOSE_PAREN ts) (length ts) → FindsNone whole least
valued_over_none whole least at ts l s f n m = s n m ∙ next_fails (ranged n CLOSE_PAREN ts) (λ rs us. valued n at (raw_ranged_lambda rs) us) (f n (omega (arith, l, m)))

pub valued_over_read : (whole : ℕ → Option (RawTree × List Token)) (least at : ℕ) (ts : List Token) (all : Ranges) (us : List Token) → length ts ≤ least → SameFrom least whole (λ n. valued_over n at ts) → (f : FindsRanges ts CLOSE_PAREN all us) → SameFrom least whole (λ n. valued n at (raw_ranged_lambda f.trees) us)
valued_over_read whole least at ts all us l s f n m = s n m ∙ next_found (ranged n CLOSE_PAREN ts) f.trees us (λ rs us. valued n at (raw_ranged_lambda rs) us) (f.found n (omega (arith, l, m)))

pub valued_none : (at : ℕ) (form : RawTree → RawTree → RawTreeNode) (ts : List Token) → dot_paren ts ≡ None → FindsNone (λ n. valued n at form ts) (length ts)
valued_none at form ts a n m = next_fails (dot_paren ts) (λ _ us. next (enclosed n Term BAR us) (λ p vs. next (enclosed n Term CLOSE_PAREN vs) (λ e ws. Some (raw at (form p e), ws)))) a

valued_read : (n at : ℕ) (form : RawTree → RawTree → RawTreeNode) (ts : List Token) (t : Token) (us : List Token) → dot_paren ts ≡ Some (t, us) → valued n at form ts ≡ next (enclosed n Term BAR us) (λ p vs. next (enclosed n Term CLOSE_PAREN vs) (λ e ws. Some (raw at (form p e), ws)))
valued_read n at form ts t us a = next_found (dot_paren ts) t us (λ _ us. next (enclosed n Term BAR us) (λ p vs. next (enclosed n Term CLOSE_PAREN vs) (λ e ws. Some (raw at (form p e), ws)))) a

pub valued_none_body : (at : ℕ) (form : RawTree → RawTree → RawTreeNode) (ts : List Token) (t : Token) (us : List Token) → dot_paren ts ≡ Some (t, us) → length us < length ts → FindsNone (λ n. enclosed n Term BAR us) (length us) → FindsNone (λ n. valued n at form ts) (length ts)
valued_none_body at form ts t us a l f n m = valued_read n at form ts t us a ∙ next_fails (enclosed n Term BAR us) (λ p vs. next (enclosed n Term CLOSE_PAREN vs) (λ e ws. Some (raw at (form p e), ws))) (f n (omega (arith, l, m)))

valued_more : (n at : ℕ) (form : RawTree → RawTree → RawTreeNode) (ts : List Token) (t : Token) (us : List Token) (p : RawTree) (vs : List Token) → dot_paren ts ≡ Some (t, us) → enclosed n Term BAR us ≡ Some (p, vs) → valued n at form ts ≡ next (enclosed n Term CLOSE_PAREN vs) (λ e ws. Some (raw at (form p e), ws))
valued_more n at form ts t us p vs a b = valued_read n at form ts t us a ∙ next_found (enclosed n Term BAR us) p vs (λ p vs. next (enclosed n Term CLOSE_PAREN vs) (λ e ws. Some (raw at (form p e), ws))) b

pub valued_none_value : (at : ℕ) (form : RawTree → RawTree → RawTreeNode) (ts : List Token) (t : Token) (us : List Token) (body : Piece) (vs : List Token) → dot_paren ts ≡ Some (t, us) → length us < length ts → Finds (λ n. enclosed n Term BAR us) (length us) (λ x. x) body vs → length vs < length us → FindsNone (λ n. enclosed n Term CLOSE_PAREN vs) (length vs) → FindsNone (λ n. valued n at form ts) (length ts)
valued_none_value at form ts t us body vs a l f k g n m = valued_more n at form ts t us f.tree vs a (f.found n (omega (arith, l, m))) ∙ next_fails (enclosed n Term CLOSE_PAREN vs) (λ e ws. Some (raw at (form f.tree e), ws)) (g n (omega (arith, l, k, m)))

pub valued_some : (at : ℕ) (form : RawTree → RawTree → RawTreeNode) (ts : List Token) (t : Token) (us : List Token) (body : Piece) (vs : List Token) (value : Piece) (ws : List Token) (new : Piece) → dot_paren ts ≡ Some (t, us) → length us < length ts → Finds (λ n. enclosed n Term BAR us) (length us) (λ x. x) body vs → length vs < length us → Finds (λ n. enclosed n Term CLOSE_PAREN vs) (length vs) (λ x. x) value ws → ((p e : RawTree) → IsPiece p body → IsPiece e value → IsPiece (raw at (form p e)) new) → Finds (λ n. valued n at form ts) (length ts) (λ x. x) new ws
valued_some at form ts t us body vs value ws new a l f k g h = record { tree = raw at (form f.tree g.tree); found = λ n m. valued_more n at form ts t us f.tree vs a (f.found n (omega (arith, l, m))) ∙ next_found (enclosed n Term CLOSE_PAREN vs) g.tree ws (λ e ws. Some (raw at (form f.tree e), ws)) (g.found n (omega (arith, l, k, m))); built = h f.tree g.tree f.built g.built }

-- ---- ~, [s] and (x)
suffix_inverse_at : (n : ℕ) (ts : List Token) (t : Token) (us : List Token) → begins_with INVERSE ts ≡ true → sign INVERSE ts ≡ Some (t, us) → suffixed n ts ≡ Some (raw_inverse, us)
suffix_inverse_at n ts t us b a = (λ i. cond (b i) (next (sign INVERSE ts) (λ _ us. Some (raw_inverse, us))) (cond (begins_with OPEN_BRACKET ts) (next (within OPEN_BRACKET CLOSE_BRACKET (read n 0) ts) (λ s us. Some ((λ t. raw_image t s), us))) (cond (begins_with OPEN_PAREN ts) (next (sign OPEN_PAREN ts) (λ _ us. next (arguments n (read n) us) (λ x vs. Some ((λ t. raw_apply t x), vs)))) None))) ∙ next_found (sign INVERSE ts) t us (λ _ us. Some (raw_inverse, us)) a

suffix_image_at : (n : ℕ) (ts : List Token) (t : Token) (us : List Token) → begins_with INVERSE ts ≡ false → begins_with OPEN_BRACKET ts ≡ true → sign OPEN_BRACKET ts ≡ Some (t, us) → suffixed n ts ≡ next (enclosed n Term CLOSE_BRACKET us) (λ s us. Some ((λ t. raw_image t s), us))
suffix_image_at n ts t us b c a = (λ i. cond (b i) (next (sign INVERSE ts) (λ _ us. Some (raw_inverse, us))) (cond (c i) (next (within OPEN_BRACKET CLOSE_BRACKET (read n 0) ts) (λ s us. Some ((λ t. raw_image t s), us))) (cond (begins_with OPEN_PAREN ts) (next (sign OPEN_PAREN ts) (λ _ us. next (arguments n (read n) us) (λ x vs. Some ((λ t. raw_apply t x), vs)))) None))) ∙ (λ i. next (within_is n OPEN_BRACKET CLOSE_BRACKET ts t us a i) (λ s us. Some ((λ t. raw_image t s), us)))

suffix_apply_at : (n : ℕ) (ts : List Token) (t : Token) (us : List Token) → begins_with INVERSE ts ≡ false → begins_with OPEN_BRACKET ts ≡ false → begins_with OPEN_PAREN ts ≡ true → sign OPEN_PAREN ts ≡ Some (t, us) → suffixed n ts ≡ next (enclosed n Arguments CLOSE_PAREN us) (λ x vs. Some ((λ t. raw_apply t x), vs))
suffix_apply_at n ts t us b c d a = (λ i. cond (b i) (next (sign INVERSE ts) (λ _ us. Some (raw_inverse, us))) (cond (c i) (next (within OPEN_BRACKET CLOSE_BRACKET (read n 0) ts) (λ s us. Some ((λ t. raw_image t s), us))) (cond (d i) (next (sign OPEN_PAREN ts) (λ _ us. next (arguments n (read n) us) (λ x vs. Some ((λ t. raw_apply t x), vs)))) None))) ∙ next_found (sign OPEN_PAREN ts) t us (λ _ us. next (arguments n (read n) us) (λ x vs. Some ((λ t. raw_apply t x), vs))) a ∙ (λ i. next (arguments_is n us i) (λ x vs. Some ((λ t. raw_apply t x), vs)))

pub suffix_inverse : (ts : List Token) (t : Token) (us : List Token) → begins_with INVERSE ts ≡ true → sign INVERSE ts ≡ Some (t, us) → FindsSuffix ts Inverse us
suffix_inverse ts t us b a = record { form = raw_inverse; found = λ n m. suffix_inverse_at n ts t us b a; built = refl }

pub suffix_none_image : (ts : List Token) (t : Token) (us : List Token) → begins_with INVERSE ts ≡ false → begins_with OPEN_BRACKET ts ≡ true → sign OPEN_BRACKET ts ≡ Some (t, us) → length us < length ts → FindsNone (λ n. enclosed n Term CLOSE_BRACKET us) (length us) → FindsNone (λ n. suffixed n ts) (length ts)
suffix_none_image ts t us b c a l f n m = suffix_image_at n ts t us b c a ∙ next_fails (enclosed n Term CLOSE_BRACKET us) (λ s us. Some ((λ t. raw_image t s), us)) (f n (omega (arith, l, m)))

pub suffix_image : (ts : List Token) (t : Token) (us : List Token) (piece : Piece) (vs : List Token) → begins_with INVERSE ts ≡ false → begins_with OPEN_BRACKET ts ≡ true → sign OPEN_BRACKET ts ≡ Some (t, us) → length us < length ts → Finds (λ n. enclosed n Term CLOSE_BRACKET us) (length us) (λ x. x) piece vs → FindsSuffix ts (Image piece) vs
suffix_image ts t us piece vs b c a l f = record { form = λ t. raw_image t f.tree; found = λ n m. suffix_image_at n ts t us b c a ∙ next_found (enclosed n Term CLOSE_BRACKET us) f.tree vs (λ s us. Some ((λ t. raw_image t s), us)) (f.found n (omega (arith, l, m))); built = (f.tree, refl, f.built) }

pub suffix_none : (ts : List Token) → begins_with INVERSE ts ≡ false → begins_with OPEN_BRACKET ts ≡ false → begins_with OPEN_PAREN ts ≡ false → FindsNone (λ n. suffixed n ts) (length ts)
suffix_none ts b c d n m = λ i. cond (b i) (next (sign INVERSE ts) (λ _ us. Some (raw_inverse, us))) (cond (c i) (next (within OPEN_BRACKET CLOSE_BRACKET (read n 0) ts) (λ s us. Some ((λ t. raw_image t s), us))) (cond (d i) (next (sign OPEN_PAREN ts) (λ _ us. next (arguments n (read n) us) (λ x vs. Some ((λ t. raw_apply t x), vs)))) None))

pub suffix_none_apply : (ts : List Token) (t : Token) (us : List Token) → begins_with INVERSE ts ≡ false → begins_with OPEN_BRACKET ts ≡ false → begins_with OPEN_PAREN ts ≡ true → sign OPEN_PAREN ts ≡ Some (t, us) → length us < length ts → FindsNone (λ n. enclosed n Arguments CLOSE_PAREN us) (length us) → FindsNone (λ n. suffixed n ts) (length ts)
suffix_none_apply ts t us b c d a l f n m = suffix_apply_at n ts t us b c d a ∙ next_fails (enclosed n Arguments CLOSE_PAREN us) (λ x vs. Some ((λ t. raw_apply t x), vs)) (f n (omega (arith, l, m)))

pub suffix_apply : (ts : List Token) (t : Token) (us : List Token) (piece : Piece) (vs : List Token) → begins_with INVERSE ts ≡ false → begins_with OPEN_BRACKET ts ≡ false → begins_with OPEN_PAREN ts ≡ true → sign OPEN_PAREN ts ≡ Some (t, us) → length us < length ts → Finds (λ n. enclosed n Arguments CLOSE_PAREN us) (length us) (λ x. x) piece vs → FindsSuffix ts (Apply piece) vs
suffix_apply ts t us piece vs b c d a l f = record { form = λ t. raw_apply t f.tree; found = λ n m. suffix_apply_at n ts t us b c d a ∙ next_found (enclosed n Arguments CLOSE_PAREN us) f.tree vs (λ x vs. Some ((λ t. raw_apply t x), vs)) (f.found n (omega (arith, l, m))); built = (f.tree, refl, f.built) }
