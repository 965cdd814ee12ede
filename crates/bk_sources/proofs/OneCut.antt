-- Files whose tokens are told have no fault.
use Rattle.std.specs.Prelude.{ℕ, ◌+◌, List, All, refl}
use Rattle.std.proofs.Common.{inl, inr, arith, subst}
use Rattle.bk_lex.specs.declared.fault.LexFault.{LexFault}
use Rattle.bk_lex.specs.declared.fault.LexFault.TheVariants.{BadChar, OpenComment, NumberTooWide, Limit as LexLimit}
use Rattle.bk_lex.specs.Faults.{IsFaultOf as IsLexFaultOf}
use Rattle.bk_lex.specs.Laws.{IsOfText}
use Rattle.bk_lex.proofs.Cutting.{tokens_are_one, faults_have_no_tokens}
use Rattle.bk_sources.specs.declared.fault.FileFault.TheVariants.{Fault, Limit, Memory}
use Rattle.bk_sources.specs.Files.{Has, IsFirst, IsShallowText, IsNoToken, IsDeep, IsAtFault, IsPastLimit}
use Rattle.bk_sources.specs.Laws.{ShallowFilesHaveNoFault}
use Rattle.bk_sources.proofs.Turns.{all_middle}

-- where all are so there is no first at fault
pub no_first : {A : Type 0} (P Fine Faulty : A → Type 0) (items : List A) (place : ℕ) → All P items → ((x : A) → P x → Faulty x → ⊥) → IsFirst Fine Faulty items place → ⊥
no_first P Fine Faulty items place h none f = none f.item (all_middle P f.before f.item f.after (subst (All P) f.splits h)) f.faulty

not_cut : (text : List ℕ) (fault : LexFault) → Has IsShallowText text → IsLexFaultOf text fault → IsOfText fault → ⊥
not_cut text fault p h o = faults_have_no_tokens text fault p.0 h o p.1.cut.cut p.1.cut.few

not_token : (text : List ℕ) (place : ℕ) → Has IsShallowText text → IsNoToken place text → ⊥
not_token text place p (inl h) = not_cut text (BadChar place) p h tt
not_token text place p (inr (inl h)) = not_cut text (OpenComment place) p h tt
not_token text place p (inr (inr h)) = not_cut text (NumberTooWide place) p h tt

pub not_deep : (text : List ℕ) → Has IsShallowText text → IsDeep text → ⊥
not_deep text p h =
    let shallow : IsShallowText text h.0 = subst (IsShallowText text) (tokens_are_one text p.0 h.0 p.1.cut.cut h.1.cut) p.1 in
    h.3.deep (shallow.shallow (h.2 + 1) (omega (arith, h.3.inside)))

pub none_at_fault : (texts : List (List ℕ)) (number file place : ℕ) → All (Has IsShallowText) texts → IsAtFault texts number file place → ⊥
none_at_fault texts number file place h (inl f) = no_first (Has IsShallowText) _ _ texts file h (λ text p n. n.0 p.1.cut.cut.0) f.1
none_at_fault texts number file place h (inr f) = no_first (Has IsShallowText) _ _ texts file h (λ text p n. not_token text place p n) f.2

pub none_past_limit : (texts : List (List ℕ)) (number file : ℕ) → All (Has IsShallowText) texts → IsPastLimit texts number file → ⊥
none_past_limit texts number file h (inl f) = no_first (Has IsShallowText) _ _ texts file h (λ text p n. not_cut text (LexLimit n.0) p n.1 tt) f.2
none_past_limit texts number file h (inr f) = no_first (Has IsShallowText) _ _ texts file h not_deep f.2

pub shallow_files_have_no_fault : ShallowFilesHaveNoFault
shallow_files_have_no_fault texts (Fault number file place) h f = absurd (none_at_fault texts number file place h f)
shallow_files_have_no_fault texts (Limit number file) h f = absurd (none_past_limit texts number file h f)
shallow_files_have_no_fault texts Memory h f = refl
