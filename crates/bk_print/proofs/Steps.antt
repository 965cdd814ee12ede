-- Outcomes one after another, and what is told of a text that is read back.
use Rattle.std.proofs.Common.{◌≡◌, inl, inr, ℕ, zero, suc, ◌+◌, ◌<◌, ◌≤◌, List, [], ◌∷◌, ◌++◌, length, map, take, get_or, below_more, ap, sym, ◌∙◌, subst, arith}
use Rattle.std.proofs.lemmas.List.{length-map, take_all, get_or-map, get_or_default}
use Rattle.bk_form.specs.Each.{Each}
use Rattle.bk_form.specs.Table.{Table}
use Rattle.bk_seq.specs.Sequents.{Sequent, sequent_of}
use Rattle.bk_seq.specs.declared.sequent.Sequent.{Sequent as HeldSequent}
use Rattle.bk_raw.specs.Trees.ScriptTree.{RawScript}
use Rattle.bk_dev.specs.Development.{Development}
use Rattle.bk_dev.specs.Facts.{IsDevelopment}
use Rattle.bk_dev.specs.Flattened.{flattened}
use Rattle.bk_po.specs.Limits.{PassNoLimit}
use Rattle.bk_po.specs.Obligations.{obligations, numbered_obligations}
use Rattle.bk_po.specs.Shown.{named_sequent}
use Rattle.bk_po.specs.declared.obligation.Obligation.{Obligation}
use Rattle.bk_po.proofs.Laying.{each_item}
use Rattle.bk_p_proof.specs.Files.{AreScriptsOf, IsFaultOf}
use Rattle.bk_p_proof.specs.declared.fault.ScriptFault.{ScriptFault}
use Rattle.bk_p_proof.specs.declared.fault.ScriptFault.TheVariants.{Fault, Limit, Memory}
use Rattle.bk_p_proof.proofs.OneAnswer.{scripts_are_one, faults_exclude}
use Rattle.bk_p_proof.proofs.OneFault.{faults_are_one_of}
use Rattle.bk_status.specs.declared.state.State.{State}
use Rattle.bk_status.specs.declared.state.State.TheVariants.{Proved}
use Rattle.bk_status.specs.declared.table.Row.{Row}
use Rattle.bk_status.specs.Replayable.{IsReplayable}
use Rattle.bk_status.specs.States.{IsState}
use Rattle.bk_status.proofs.OneState.{states_are_one}
use Rattle.bk_status.proofs.Within.{all_replayable}
use Rattle.bk_print.specs.declared.outcome.Outcome.{Outcome}
use Rattle.bk_print.specs.declared.trial.Trial.TheVariants.{Fails}
use Rattle.bk_print.specs.InScope.{PassesLimit, IsTooLong, IsTooHigh}
use Rattle.bk_print.specs.Found.{ProvesAlone, IsTrial, trial_past, IsFoundFor, AreFound, state_at}

-- ---- outcomes
turn : (dev : Development) (os : List (List ℕ × Sequent)) (rs : List Row) (xs : List Outcome) (i : ℕ) (o : List ℕ × Sequent) (x : Outcome) → i < length os → length rs ≡ length os → o ≡ get_or os i o
    → AreFound dev (take i os) (take i rs) xs → IsFoundFor dev o (state_at rs i) x → AreFound dev (take (suc i) os) (take (suc i) rs) (xs ++ x ∷ [])
turn dev [] rs xs i o x below same is so h = absurd (omega arith)
turn dev (p ∷ os) [] xs i o x below same is so h = absurd (omega arith)
turn dev (p ∷ os) (r ∷ rs) [] zero o x below same is so h = (subst (λ q. IsFoundFor dev q r.state x) is h, tt)
turn dev (p ∷ os) (r ∷ rs) (y ∷ xs) zero o x below same is so h = absurd so
turn dev (p ∷ os) (r ∷ rs) [] (suc i) o x below same is so h = absurd so
turn dev (p ∷ os) (r ∷ rs) (y ∷ xs) (suc i) o x below same is so h = (so.0, turn dev os rs xs i o x (omega arith) (omega arith) is so.1 h)

pub found_turn : (dev : Development) (os : List (List ℕ × Sequent)) (rs : List Row) (xs : List Outcome) (i : ℕ) (o : List ℕ × Sequent) (x : Outcome) → i < length os → length rs ≡ length os → o ≡ get_or os i o
    → AreFound dev (take i os) (take i rs) xs → IsFoundFor dev o (state_at rs i) x → AreFound dev (take (i + 1) os) (take (i + 1) rs) (xs ++ x ∷ [])
found_turn dev os rs xs i o x below same is so h =
    let e : suc i ≡ i + 1 = omega arith in subst (λ n. AreFound dev (take n os) (take n rs) (xs ++ x ∷ [])) e (turn dev os rs xs i o x below same is so h)

pub found_all : (dev : Development) (os : List (List ℕ × Sequent)) (rs : List Row) (xs : List Outcome) (i : ℕ) → length os ≤ i → length rs ≡ length os → AreFound dev (take i os) (take i rs) xs → AreFound dev os rs xs
found_all dev os rs xs i past same so =
    subst (λ ps. AreFound dev ps rs xs) (take_all i os past) (subst (λ qs. AreFound dev (take i os) qs xs) (take_all i rs (omega (arith, past, same))) so)

-- an obligation of the list is one of the development's
pub named_at : (list : List Obligation) (i : ℕ) (o : Obligation) → i < length list → o ≡ get_or list i o → named_sequent o ≡ get_or (map named_sequent list) i (named_sequent o)
named_at list i o below is = ap named_sequent is ∙ sym (get_or-map named_sequent list i o (named_sequent o) below)

pub one_replayable : (dev : Development) (table : Table) (list : List Obligation) (i : ℕ) (o : Obligation) → IsDevelopment dev → PassNoLimit (obligations dev) → table ≡ (flattened dev).table → map named_sequent list ≡ numbered_obligations dev → i < length list → o ≡ get_or list i o
    → IsReplayable table (named_sequent o).1
one_replayable dev table list i o d within t are below is =
    let all : Each (λ q. IsReplayable (flattened dev).table q.1) (map named_sequent list) = subst (Each (λ q. IsReplayable (flattened dev).table q.1)) (sym are) (all_replayable dev d within) in
    let there : i < length (map named_sequent list) = omega (arith, below, length-map list named_sequent) in
    let one : IsReplayable (flattened dev).table (get_or (map named_sequent list) i (named_sequent o)).1 =
    each_item (λ q. IsReplayable (flattened dev).table q.1) (map named_sequent list) i (named_sequent o) there all in
    subst (λ u. IsReplayable u (named_sequent o).1) (sym t) (subst (λ (q : List ℕ × Sequent). IsReplayable (flattened dev).table q.1) (sym (named_at list i o below is)) one)

-- ---- texts
-- a text that proves an obligation has no fault
pub no_fault : (dev : Development) (o : List ℕ × Sequent) (text : List ℕ) (fault : ScriptFault) → (fault ≡ Memory → ⊥) → IsFaultOf (text ∷ []) fault → ProvesAlone dev o text → ⊥
no_fault dev o text fault other h p = other (faults_exclude (text ∷ []) p.scripts fault p.read h)

-- the scripts that are read of it are those that prove
pub read_proves : (dev : Development) (o : List ℕ × Sequent) (text : List ℕ) (scripts : List RawScript) → AreScriptsOf (text ∷ []) scripts → ProvesAlone dev o text → IsState dev scripts o.0 o.1 Proved
read_proves dev o text scripts read p = subst (λ ss. IsState dev ss o.0 o.1 Proved) (scripts_are_one (text ∷ []) p.scripts scripts p.read read) p.proved

-- an obligation in another state is not proved
pub other_state : (dev : Development) (scripts : List RawScript) (o : List ℕ × Sequent) (state : State) → (state ≡ Proved → ⊥) → IsState dev scripts o.0 o.1 state → IsState dev scripts o.0 o.1 Proved → ⊥
other_state dev scripts o state other h k = other (states_are_one dev scripts o.0 o.1 state Proved h k)

-- ---- what a search found
-- a copy of a sequent is the same
pub same_sequent : (s t : HeldSequent) → s.hyps.items ≡ t.hyps.items → s.goal ≡ t.goal → sequent_of s ≡ sequent_of t
same_sequent s t e f = λ i. (e i, f i)

-- ---- trials
-- what is read of it does not prove
pub read_fails : (dev : Development) (o : List ℕ × Sequent) (text : List ℕ) (scripts : List RawScript) → AreScriptsOf (text ∷ []) scripts → (IsState dev scripts o.0 o.1 Proved → ⊥) → IsTrial dev o text Fails
read_fails dev o text scripts read n = ((λ p. n (read_proves dev o text scripts read p)), too_long, too_high)
  where
    past : (number : ℕ) → PassesLimit number text → ⊥
    past number h = let never : Limit number h.0 ≡ Memory = faults_exclude (text ∷ []) scripts (Limit number h.0) read h.1 in absurd (cc)

    too_long : IsTooLong text → ⊥
    too_long (inl h) = past 2 h
    too_long (inr h) = past 8 h

    too_high : IsTooHigh text → ⊥
    too_high (inl h) = past 3 h
    too_high (inr h) = past 12 h

-- it has a fault that is no limit
pub fault_fails : (dev : Development) (o : List ℕ × Sequent) (text : List ℕ) (number file place : ℕ) → IsFaultOf (text ∷ []) (Fault number file place) → IsTrial dev o text Fails
fault_fails dev o text number file place f = (no_fault dev o text (Fault number file place) (λ k. (let never : Fault number file place ≡ Memory = k in cc)) f, too_long, too_high)
  where
    past : (limit : ℕ) → PassesLimit limit text → ⊥
    past limit h = let never : Fault number file place ≡ Limit limit h.0 = faults_are_one_of (text ∷ []) (Fault number file place) (Limit limit h.0) f tt h.1 tt in absurd (cc)

    too_long : IsTooLong text → ⊥
    too_long (inl h) = past 2 h
    too_long (inr h) = past 8 h

    too_high : IsTooHigh text → ⊥
    too_high (inl h) = past 3 h
    too_high (inr h) = past 12 h

-- it passes a limit
pub limit_trial : (dev : Development) (o : List ℕ × Sequent) (text : List ℕ) (number file : ℕ) → IsFaultOf (text ∷ []) (Limit number file) → IsTrial dev o text (trial_past number)
limit_trial dev o text number file f = by-number f
  where
    at : (n : ℕ) → number ≡ n → PassesLimit n text
    at n e = (file, subst (λ (m : ℕ). IsFaultOf (text ∷ []) (Limit m file)) e f)

    by-number : IsFaultOf (text ∷ []) (Limit number file) → IsTrial dev o text (trial_past number)
    by-number (inl (inl h)) = subst (λ (m : ℕ). IsTrial dev o text (trial_past m)) (sym h.0) (inl (at 2 h.0))
    by-number (inl (inr h)) = subst (λ (m : ℕ). IsTrial dev o text (trial_past m)) (sym h.0) (inl (at 3 h.0))
    by-number (inr (inl h)) = subst (λ (m : ℕ). IsTrial dev o text (trial_past m)) (sym h.0) (inr (at 12 h.0))
    by-number (inr (inr h)) = subst (λ (m : ℕ). IsTrial dev o text (trial_past m)) (sym h.0) (inr (at 8 h.0))

-- ---- loops
-- what holds of those before holds of those with the next
pub one_more : {A : Type 0} (P : A → Type 0) (xs : List A) (i : ℕ) (x : A) → i < length xs → x ≡ get_or xs i x → ((k : ℕ) (d : A) → k < i → P (get_or xs k d)) → P x → (k : ℕ) (d : A) → k < i + 1 → P (get_or xs k d)
one_more P xs i x b is h p k d l = below_more (λ (n : ℕ). P (get_or xs n d)) i (λ n m. h n d m) (subst P (is ∙ get_or_default xs i x d b) p) k l
