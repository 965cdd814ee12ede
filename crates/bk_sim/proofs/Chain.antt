-- Sessions, from calls one by one.
use Rattle.std.proofs.Common.{ℕ, ℤ, List, [], ◌∷◌, ◌++◌, sym, subst}
use Rattle.bk_val.specs.Value.{MathValue}
use Rattle.bk_form.specs.Search.{Finder}
use Rattle.bk_dev.specs.Development.{Development}
use Rattle.bk_dev.specs.Machine.{Abstract, Opens, Call, IsCall, AreCalls, Pre, Steps, After, ReachFrom, LegalFrom, Legal}
use Rattle.bk_code.specs.declared.image.Image.{Image}
use Rattle.bk_code.specs.declared.image.OpEntry.{OpEntry}
use Rattle.bk_code.specs.Step.{Config}
use Rattle.bk_code.specs.Run.{End, Done, Trapped, OutOfFuel}
use Rattle.bk_sim.specs.Shows.{Linked}
use Rattle.bk_sim.specs.Follows.{IsEntry, replies, started, IsGood, GoesWell, AreDone, IsBegun, IsStep, OpensWell, CallsGoWell, SessionsGoWell}
use Rattle.bk_sim.specs.Laws.{CallsDecide}

-- what holds of the cells may be weakened
well-more : (image : Image) (fuel : ℕ) (start : Config) (P Q : List ℤ → Type 0) → ((k : List ℤ) → P k → Q k) → GoesWell image fuel start P → GoesWell image fuel start Q
well-more image fuel start P Q f w end d e = more end (w end d e)
  where
    more : (end : End) → IsGood image fuel start P end d → IsGood image fuel start Q end d
    more (Done n) g = f d.cells g
    more (Trapped kind place n) g = g
    more OutOfFuel g = g

module _ (find : Finder) (dev : Development) (image : Image) (calls : CallsGoWell find dev image) (fuel : ℕ) (c : Call) (is_call : IsCall dev c) (entry : OpEntry) (is_entry : IsEntry image c.op entry) where
  -- reached from the states of before
  Reached : (Abstract → Type 0) → List Call → List (List MathValue) → List ℤ → Type 0
  Reached before cs outs k = (b : Abstract) × ReachFrom find dev before (cs ++ c ∷ []) (outs ++ replies dev c.op entry.outputs k ∷ []) b × Linked find dev b k

  along : (cs : List Call) (outs : List (List MathValue)) (before : Abstract → Type 0) (a : Abstract) → before a → (l m : List ℤ) → Linked find dev a l → AreCalls dev cs → AreDone dev image fuel l cs outs m → LegalFrom find dev before (cs ++ c ∷ []) outs → GoesWell image fuel (started entry c m) (Reached before cs outs)
  unfolding Reached
  along [] [] before a h l m linked are done legal =
      let w : GoesWell image fuel (started entry c l) (IsStep find dev c entry a) = (calls a l c entry (record { linked = linked; call = is_call; pre = legal a h; named = is_entry })).1 fuel in
      let v : GoesWell image fuel (started entry c l) (Reached before [] []) = well-more image fuel (started entry c l) (IsStep find dev c entry a) (Reached before [] []) (λ k q. (q.0, (a, h, q.1), q.2)) w in
      subst (λ x. GoesWell image fuel (started entry c x) (Reached before [] [])) done v
  along [] (us ∷ more) before a h l m linked are done legal = absurd done
  along (x ∷ cs) [] before a h l m linked are done legal = absurd done
  along (x ∷ cs) (us ∷ more) before a h l m linked are done legal =
      let step : IsStep find dev x done.0 a done.2.cells = (calls a l x done.0 (record { linked = linked; call = are.0; pre = legal.0 a h; named = done.3 })).1 fuel (Done done.1) done.2 done.4 in
      let after : After find dev before x us step.0 = (a, h, subst (λ vs. Steps find dev x a vs step.0) (sym done.5) step.1) in
      along cs more (After find dev before x us) step.0 after done.2.cells m step.2 are.1 done.6 legal.1

-- before a legal call the cells are linked to a state in which its precondition is true
module _ (find : Finder) (dev : Development) (image : Image) (calls : CallsGoWell find dev image) (fuel : ℕ) (c : Call) where
  before-call : (cs : List Call) (outs : List (List MathValue)) (before : Abstract → Type 0) (a : Abstract) → before a → (l m : List ℤ) → Linked find dev a l → AreCalls dev cs → AreDone dev image fuel l cs outs m → LegalFrom find dev before (cs ++ c ∷ []) outs → (b : Abstract) × Linked find dev b m × Pre find dev c b
  before-call [] [] before a h l m linked are done legal = (a, subst (Linked find dev a) done linked, legal a h)
  before-call [] (us ∷ more) before a h l m linked are done legal = absurd done
  before-call (x ∷ cs) [] before a h l m linked are done legal = absurd done
  before-call (x ∷ cs) (us ∷ more) before a h l m linked are done legal =
      let step : IsStep find dev x done.0 a done.2.cells = (calls a l x done.0 (record { linked = linked; call = are.0; pre = legal.0 a h; named = done.3 })).1 fuel (Done done.1) done.2 done.4 in
      let after : After find dev before x us step.0 = (a, h, subst (λ vs. Steps find dev x a vs step.0) (sym done.5) step.1) in
      before-call cs more (After find dev before x us) step.0 after done.2.cells m step.2 are.1 done.6 legal.1

pub linked_before : (find : Finder) (dev : Development) (image : Image) → OpensWell find dev image → CallsGoWell find dev image → (fuel : ℕ) (l m : List ℤ) (cs : List Call) (c : Call) (outs : List (List MathValue)) →
    IsBegun image fuel l → AreCalls dev cs → AreDone dev image fuel l cs outs m → Legal find dev (cs ++ c ∷ []) outs → (b : Abstract) × Linked find dev b m × Pre find dev c b
linked_before find dev image opens calls fuel l m cs c outs begun are done legal =
    let first = opens fuel (Done begun.0) begun.1 begun.2 in
    before-call find dev image calls fuel c cs outs (Opens find dev) first.0 first.1 l m (subst (λ x. Linked find dev first.0 x) begun.3 first.2) are done legal

sessions : (find : Finder) (dev : Development) (image : Image) → OpensWell find dev image → CallsGoWell find dev image → SessionsGoWell find dev image
unfolding Reached
sessions find dev image opens calls fuel l m cs c outs entry n =
    let first = opens fuel (Done n.begun.0) n.begun.1 n.begun.2 in
    along find dev image calls fuel c n.call entry n.named cs outs (Opens find dev) first.0 first.1 l m (subst (λ x. Linked find dev first.0 x) n.begun.3 first.2) n.calls n.done n.legal

pub calls_decide : CallsDecide
calls_decide find dev image operations opens calls = record { operations = operations; opening = opens; session = sessions find dev image opens calls; local = calls }
