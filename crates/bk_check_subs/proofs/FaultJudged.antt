-- Faults of substitutions: of assignments, of what is bound, and of what stands behind a substitution.
use Rattle.std.proofs.Common.{◌≡◌, ℕ, zero, suc, ◌+◌, ◌<◌, ◌≤◌, List, [], ◌∷◌, ◌++◌, length, get_or, drop, map, refl, sym, ◌∙◌, ap, arith, append_assoc}
use Rattle.std.specs.Prelude.{Option, None, Some, ℤ, Bool}
use Rattle.std.proofs.lemmas.List.{drop_all}
use Rattle.bk_form.specs.Role.{bind}
use Rattle.bk_gsl.specs.State.{firsts}
use Rattle.bk_raw.specs.declared.substitution.RawBranch.{RawBranch}
use Rattle.bk_raw.specs.declared.term.RawName.{RawName}
use Rattle.bk_raw.specs.Meaning.Names.{Names}
use Rattle.bk_raw.specs.Trees.RawTree.{RawTree, RawTrees, no_trees, tree_and, trees_of}
use Rattle.bk_raw.specs.Trees.SubTree.{SubTree}
use Rattle.bk_raw.specs.Codes.SubView.{choices_of}
use Rattle.bk_raw.specs.Errors.Blame.{blame, earlier}
use Rattle.bk_raw.specs.Errors.Faults.{Fault, wrong_write}
use Rattle.bk_statics.specs.Binders.{binder_count}
use Rattle.bk_statics.specs.Typings.{Typing, target, type_at, numbered}
use Rattle.bk_statics.specs.SubFaults.{term_faults, predicate_faults, assign_faults, writable_within, sub_faults, shared_faults}
use Rattle.bk_scope.specs.Shown.{branches_shown}
use Rattle.bk_scope.proofs.FaultSteps.{next, told-more, told-both, told-three}
use Rattle.bk_check_subs.specs.declared.judging.Judge.{Judge}
use Rattle.bk_check_subs.specs.declared.left.Write.{Write}
use Rattle.bk_check_subs.specs.Judged.{typing_by, names_by, faults_by, branches_by, choices_by, condition_by, stated_by, paired_by, unpaired_by}
use Rattle.bk_check_subs.specs.Written.{writes_shown}

-- terms without names
only-terms : (j : Judge) (first : ℕ) (es : RawTrees) → unpaired_by j first 0 es ≡ assign_faults j.typing.max (typing_by j) (names_by j) first [] es
only-terms j first no_trees = refl
only-terms j first (tree_and e es) = ap (λ l. wrong_write first ∷ (term_faults j.typing.max (typing_by j) (names_by j) None e ++ l)) (only-terms j first es)

-- names with terms, and then what is left over, are all
pub assigned : (j : Judge) (first : ℕ) (xs : List RawName) (es : RawTrees) → paired_by j first xs es ++ unpaired_by j first (length xs) es ≡ assign_faults j.typing.max (typing_by j) (names_by j) first xs es
assigned j first [] es = only-terms j first es
assigned j first (x ∷ xs) no_trees = refl
assigned j first (x ∷ xs) (tree_and e es) =
    let one = term_faults j.typing.max (typing_by j) (names_by j) (type_at (typing_by j) (target (names_by j) x.text)) e in
    append_assoc one (paired_by j first xs es) (unpaired_by j first (length xs) es) ∙ ap (λ l. one ++ l) (assigned j first xs es)

-- the first terms have names
pub behind-names : (j : Judge) (first n : ℕ) (es : List RawTree) → unpaired_by j first n (trees_of es) ≡ unpaired_by j first 0 (trees_of (drop n es))
behind-names j first zero es = refl
behind-names j first (suc n) [] = refl
behind-names j first (suc n) (e ∷ es) = behind-names j first n es

-- one name more with its term
pub paired-next : (j : Judge) (first : ℕ) (xs : List RawName) (es : List RawTree) (i : ℕ) (x : RawName) (e : RawTree) (before now after whole : Option Fault) → i < length xs → x ≡ get_or xs i x → i < length es → e ≡ get_or es i e →
    now ≡ blame (term_faults j.typing.max (typing_by j) (names_by j) (type_at (typing_by j) (target (names_by j) x.text)) e) → after ≡ earlier before now →
    earlier before (blame (paired_by j first (drop i xs) (trees_of (drop i es)))) ≡ whole → earlier after (blame (paired_by j first (drop (i + 1) xs) (trees_of (drop (i + 1) es)))) ≡ whole
paired-next j first xs es i x e before now after whole h a k b told join inv =
    told-more (paired_by j first (drop i xs) (trees_of (drop i es))) (term_faults j.typing.max (typing_by j) (names_by j) (type_at (typing_by j) (target (names_by j) x.text)) e) (paired_by j first (drop (i + 1) xs) (trees_of (drop (i + 1) es))) before now after whole
    (next (λ l. paired_by j first l (trees_of (drop i es))) xs i x h a ∙ next (λ l. paired_by j first (x ∷ drop (i + 1) xs) (trees_of l)) es i e k b) told join inv

-- a name without a term
pub paired-missing : (j : Judge) (first : ℕ) (xs : List RawName) (es : List RawTree) (i : ℕ) (x : RawName) → i < length xs → x ≡ get_or xs i x → length es ≤ i → paired_by j first (drop i xs) (trees_of (drop i es)) ≡ wrong_write first ∷ []
paired-missing j first xs es i x h a k =
    next (λ l. paired_by j first l (trees_of (drop i es))) xs i x h a ∙ ap (λ l. paired_by j first (x ∷ drop (i + 1) xs) (trees_of l)) (drop_all i es k)

-- ---- what is bound
-- a body under a binder
pub inner-meant : (max : ℤ) (typing : Typing) (above names inside : Names) (w v : ℕ → Bool) (n m : ℕ) (xs : List RawName) (s : SubTree) → inside ≡ bind (numbered n xs) names → ((k : ℕ) → v k ≡ writable_within n (length xs) w k) → m ≡ n + length xs →
    sub_faults max typing above inside v m s ≡ sub_faults max typing above (bind (numbered n xs) names) (writable_within n (length xs) w) (n + length xs) s
inner-meant max typing above names inside w v n m xs s a b c =
    let writes : v ≡ writable_within n (length xs) w = λ i k. b k i in
    ap (λ (ns : Names). sub_faults max typing above ns v m s) a
    ∙ (ap (λ (f : ℕ → Bool). sub_faults max typing above (bind (numbered n xs) names) f m s) writes ∙ ap (λ (k : ℕ). sub_faults max typing above (bind (numbered n xs) names) (writable_within n (length xs) w) k s) c)

-- the variables that are written
pub firsts-shown : (ws : List Write) → firsts (writes_shown ws) ≡ map (λ w. w.variable) ws
firsts-shown [] = refl
firsts-shown (w ∷ ws) = ap (λ l. w.variable ∷ l) (firsts-shown ws)

-- what both sides write
pub shared-told : (one other : List Write) (left right : List (ℕ × ℕ)) (told : Option Fault) → writes_shown one ≡ left → writes_shown other ≡ right → told ≡ blame (shared_faults (map (λ w. w.variable) one) (writes_shown other)) → told ≡ blame (shared_faults (firsts left) right)
shared-told one other left right told e f h =
    h ∙ (ap (λ l. blame (shared_faults l (writes_shown other))) (sym (firsts-shown one) ∙ ap (λ l. firsts l) e) ∙ ap (λ l. blame (shared_faults (firsts left) l)) f)

-- writes behind none
pub writes-alone : (old new found : List Write) (ws : List (ℕ × ℕ)) → old ≡ [] → found ≡ new → writes_shown new ≡ writes_shown old ++ ws → writes_shown found ≡ ws
writes-alone old new found ws e f h = ap writes_shown f ∙ (h ∙ ap (λ (l : List Write). writes_shown l ++ ws) e)

-- ---- what stands behind a substitution
-- there numbers start behind what it binds
abbrev pub behind : Judge → ℕ → Judge
behind j n = record j { first = j.first + n }

pub moved : {X : Type 0} (F : Judge → X) (j k : Judge) (n m : ℕ) → k ≡ behind j n → n ≡ m → F k ≡ F (behind j m)
moved F j k n m e f = ap F e ∙ ap (λ (i : ℕ). F (behind j i)) f

-- the predicate of a binder
pub stated-inside : (i j : Judge) (names : Names) (p : Option RawTree) (told : Option Fault) → i.typing.max ≡ j.typing.max → typing_by i ≡ typing_by j → names_by i ≡ names → told ≡ blame (condition_by i p) → told ≡ blame (stated_by j names p)
stated-inside i j names None told a b c h = h
stated-inside i j names (Some p) told a b c h =
    h ∙ (ap (λ (m : ℤ). blame (predicate_faults m (typing_by i) (names_by i) p)) a
    ∙ (ap (λ (t : Typing). blame (predicate_faults j.typing.max t (names_by i) p)) b ∙ ap (λ (ns : Names). blame (predicate_faults j.typing.max (typing_by j) ns p)) c))

-- a branch, and those behind it
pub branches-told : (j k : Judge) (bs others : List RawBranch) (last : Option SubTree) (b : RawBranch) (n : ℕ) (fault here rest within every : Option Fault) → 1 ≤ length bs → b ≡ get_or bs 0 b → others ≡ drop 1 bs →
    fault ≡ blame (predicate_faults j.typing.max (typing_by j) (names_by j) b.condition) → here ≡ blame (faults_by j b.body) → n ≡ binder_count b.body → k ≡ behind j n → rest ≡ blame (branches_by k (branches_shown others last)) →
    within ≡ earlier here rest → every ≡ earlier fault within → every ≡ blame (branches_by j (branches_shown bs last))
branches-told j k [] others last b n fault here rest within every h is cut f g count from r join whole = absurd (omega arith)
branches-told j k (x ∷ bs) others last b n fault here rest within every h is cut f g count from r join whole =
    told-three (predicate_faults j.typing.max (typing_by j) (names_by j) x.condition) (faults_by j x.body) (branches_by (behind j (binder_count x.body)) (branches_shown bs last)) fault here rest within every
    (f ∙ ap (λ (y : RawBranch). blame (predicate_faults j.typing.max (typing_by j) (names_by j) y.condition)) is) (g ∙ ap (λ (y : RawBranch). blame (faults_by j y.body)) is)
    (r ∙ (moved (λ i. blame (branches_by i (branches_shown others last))) j k n (binder_count x.body) from (count ∙ ap (λ (y : RawBranch). binder_count y.body) is)
    ∙ ap (λ (l : List RawBranch). blame (branches_by (behind j (binder_count x.body)) (branches_shown l last))) cut)) join whole

-- a choice, and those behind it
pub choices-told : (j k : Judge) (ss others : List SubTree) (s : SubTree) (n : ℕ) (fault rest every : Option Fault) → 1 ≤ length ss → s ≡ get_or ss 0 s → others ≡ drop 1 ss → fault ≡ blame (faults_by j s) → n ≡ binder_count s → k ≡ behind j n →
    rest ≡ blame (choices_by k (choices_of others)) → every ≡ earlier fault rest → every ≡ blame (choices_by j (choices_of ss))
choices-told j k [] others s n fault rest every h is cut g count from r whole = absurd (omega arith)
choices-told j k (x ∷ ss) others s n fault rest every h is cut g count from r whole =
    told-both (faults_by j x) (choices_by (behind j (binder_count x)) (choices_of ss)) fault rest every (g ∙ ap (λ (y : SubTree). blame (faults_by j y)) is)
    (r ∙ (moved (λ i. blame (choices_by i (choices_of others))) j k n (binder_count x) from (count ∙ ap binder_count is) ∙ ap (λ (l : List SubTree). blame (choices_by (behind j (binder_count x)) (choices_of l))) cut)) whole
