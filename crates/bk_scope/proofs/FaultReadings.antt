-- The faults of terms as they are read in sight are those that are meant.
use Rattle.std.proofs.Common.{◌≡◌, List, [], ◌++◌, refl, ◌∙◌, ap, Bool, true, false}
use Rattle.std.specs.Prelude.{Option, None, Some, ℤ}
use Rattle.std.proofs.lemmas.List.{append-nil}
use Rattle.bk_val.specs.ValueType.{ValueType}
use Rattle.bk_form.specs.Formula.{Formula}
use Rattle.bk_raw.specs.Trees.RawTree.{RawTree}
use Rattle.bk_raw.specs.Meaning.Outcome.{Outcome, partial, ranging, holding, silent, Reading, ask, ask_value, ask_domain, ask_predicate}
use Rattle.bk_raw.specs.Meaning.TermReading.{place_of, part, reading}
use Rattle.bk_raw.specs.Errors.Blame.{blame}
use Rattle.bk_elab_terms.specs.Shown.{told, IsAsked}
use Rattle.bk_elab_terms.specs.Visible.{typing_of, visible_names, seen_names, reading_by, asked_behind}
use Rattle.bk_elab_terms.specs.declared.blame.Fault.{Fault as ToldFault}
use Rattle.bk_elab_terms.specs.declared.sight.Visible.{Visible}
use Rattle.bk_elab_terms.specs.declared.visible.Sight.{Sight}
use Rattle.bk_statics.specs.Typings.{typed, predicate_reading, outcome_of}
use Rattle.bk_statics.specs.SubFaults.{predicate_faults, term_faults, domain_faults}
use Rattle.bk_scope.proofs.Seeing.{seen-typed}

-- what a term reads as in sight
pub reads : (wanted : Bool) (s : Sight) (max : ℤ) (names : List Visible) (types : List (Option ValueType)) (t : RawTree) → s.max ≡ max → s.names.now ≡ names → s.types.now ≡ types →
    reading_by wanted s t ≡ part wanted t (reading max (typed (typing_of types) (visible_names names)) t)
reads wanted s max names types t a b c =
    ap (λ m. part wanted t (reading m (seen_names s.types.now s.names.now) t)) a
    ∙ (ap (λ ns. part wanted t (reading max (seen_names s.types.now ns) t)) b
    ∙ (ap (λ ts. part wanted t (reading max (seen_names ts names) t)) c ∙ ap (λ ns. part wanted t (reading max ns t)) (seen-typed types names)))

no-more : (o : Outcome) → (ask_predicate o).faults ≡ []
no-more (partial p) = refl
no-more (ranging f t there) = refl
no-more (holding p) = refl
no-more silent = refl

-- a predicate
pub predicate-told : (s : Sight) (max : ℤ) (names : List Visible) (types : List (Option ValueType)) (p : RawTree) (answer : Option Formula) (fault : Option ToldFault) → s.max ≡ max → s.names.now ≡ names → s.types.now ≡ types →
    IsAsked answer fault (asked_behind (reading_by true s p) (ask_predicate (reading_by true s p).outcome)) → told fault ≡ blame (predicate_faults max (typing_of types) (visible_names names) p)
predicate-told s max names types p answer fault a b c h =
    h.first
    ∙ (ap (λ (r : Reading). blame (r.faults ++ (ask_predicate r.outcome).faults)) (reads true s max names types p a b c)
    ∙ (ap (λ l. blame ((predicate_reading max (typing_of types) (visible_names names) p).faults ++ l)) (no-more (predicate_reading max (typing_of types) (visible_names names) p).outcome)
    ∙ ap blame (append-nil (predicate_faults max (typing_of types) (visible_names names) p))))

-- a term that takes a type
pub of-type-told : (s : Sight) (max : ℤ) (names : List Visible) (types : List (Option ValueType)) (e : RawTree) (t : ValueType) (answer : Option Formula) (fault : Option ToldFault) → s.max ≡ max → s.names.now ≡ names → s.types.now ≡ types →
    IsAsked answer fault (asked_behind (reading_by false s e) (ask (place_of e) (reading_by false s e).outcome t)) → told fault ≡ blame (term_faults max (typing_of types) (visible_names names) (Some t) e)
of-type-told s max names types e t answer fault a b c h =
    h.first ∙ ap (λ (r : Reading). blame (r.faults ++ (ask (place_of e) r.outcome t).faults)) (reads false s max names types e a b c)

-- a value of any type
pub value-told : (s : Sight) (max : ℤ) (names : List Visible) (types : List (Option ValueType)) (e : RawTree) (answer : Option (Formula × ValueType)) (fault : Option ToldFault) → s.max ≡ max → s.names.now ≡ names → s.types.now ≡ types →
    IsAsked answer fault (asked_behind (reading_by false s e) (ask_value (place_of e) (reading_by false s e).outcome)) → told fault ≡ blame (term_faults max (typing_of types) (visible_names names) None e)
value-told s max names types e answer fault a b c h =
    h.first ∙ ap (λ (r : Reading). blame (r.faults ++ (ask_value (place_of e) r.outcome).faults)) (reads false s max names types e a b c)

pub value-answered : (s : Sight) (max : ℤ) (names : List Visible) (types : List (Option ValueType)) (e : RawTree) (answer : Option (Formula × ValueType)) (fault : Option ToldFault) → s.max ≡ max → s.names.now ≡ names → s.types.now ≡ types →
    IsAsked answer fault (asked_behind (reading_by false s e) (ask_value (place_of e) (reading_by false s e).outcome)) → answer ≡ (ask_value (place_of e) (outcome_of max (typing_of types) (visible_names names) e)).answer
value-answered s max names types e answer fault a b c h =
    h.same ∙ ap (λ (r : Reading). (ask_value (place_of e) r.outcome).answer) (reads false s max names types e a b c)

-- a domain
pub domain-told : (s : Sight) (max : ℤ) (names : List Visible) (types : List (Option ValueType)) (e : RawTree) (answer : Option (Formula × ValueType)) (fault : Option ToldFault) → s.max ≡ max → s.names.now ≡ names → s.types.now ≡ types →
    IsAsked answer fault (asked_behind (reading_by false s e) (ask_domain (place_of e) (reading_by false s e).outcome)) → told fault ≡ blame (domain_faults max (typing_of types) (visible_names names) e)
domain-told s max names types e answer fault a b c h =
    h.first ∙ ap (λ (r : Reading). blame (r.faults ++ (ask_domain (place_of e) r.outcome).faults)) (reads false s max names types e a b c)

pub domain-answered : (s : Sight) (max : ℤ) (names : List Visible) (types : List (Option ValueType)) (e : RawTree) (answer : Option (Formula × ValueType)) (fault : Option ToldFault) → s.max ≡ max → s.names.now ≡ names → s.types.now ≡ types →
    IsAsked answer fault (asked_behind (reading_by false s e) (ask_domain (place_of e) (reading_by false s e).outcome)) → answer ≡ (ask_domain (place_of e) (outcome_of max (typing_of types) (visible_names names) e)).answer
domain-answered s max names types e answer fault a b c h =
    h.same ∙ ap (λ (r : Reading). (ask_domain (place_of e) r.outcome).answer) (reads false s max names types e a b c)
