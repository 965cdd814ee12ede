-- Statements, operations and the initialisation follow.
use Rattle.std.proofs.Common.{◌≡◌, ◌<◌, ◌≤◌, ℕ, suc, ◌+◌, ℤ, Bool, List, [], ◌∷◌, ◌++◌, length, refl, subst, true, false, arith}
use Rattle.std.proofs.lemmas.List.{length-append}
use Rattle.bk_form.specs.Search.{Finder}
use Rattle.bk_form.specs.Environment.{State}
use Rattle.bk_gsl.specs.Substitution.{Substitution}
use Rattle.bk_gsl.specs.State.{among}
use Rattle.bk_gsl.proofs.States.{clash}
use Rattle.bk_dev.specs.Development.{Development, level_at, body_at, blank_body, inputs_of, last}
use Rattle.bk_dev.specs.Facts.{names_own, names_joined, writes_own, IsLawful}
use Rattle.bk_code.specs.declared.image.Image.{Image}
use Rattle.bk_code.specs.declared.instruction.Inst.TheVariants.{Ret}
use Rattle.bk_code.specs.Step.{Returns, step}
use Rattle.bk_b0.specs.Translation.{statement_code}
use Rattle.bk_dev.proofs.Levels.{last_level, last_paired, each-at}
use Rattle.bk_sim.specs.Placed.{Stands, at_place}
use Rattle.bk_dev.specs.B0.{IsB0Body}
use Rattle.bk_sim.specs.Statements.{HasStorage, IsRunnable, IsCleanStart, IsFollowed, StatementsFollow, IsReturned, OperationsFollow, OpeningsFollow, ReturnsEnd}
use Rattle.bk_sim.proofs.Steps.{stands-first, stands-second, stands-here, step-of}
use Rattle.bk_sim.proofs.Statements.{statement-runs}
use Rattle.bk_b0.proofs.Typing.{typed-b0}
use Rattle.bk_b0.proofs.LevelCells.{constants-have, arrays-have, known, settable, local-cells, body-fact, inputs-there, outputs-there, locals-there, init-locals-there}
use Rattle.bk_b0.proofs.ArrayTypes.{arrays-typed}

pub statements_follow : StatementsFollow
statements_follow find dev image h s scope above writable x place m e t =
    let r = statement-runs find dev image t.range h.values h.arrays s scope above writable x.stays (typed-b0 dev h.types s x.types x.in_b0) x.known x.settable x.inner place m e t.kinds t.shows t.clean t.ends t.stands in
    record { steps = r.passes.steps; cells = r.cells; state = r.state; leads = r.passes.leads; few = r.passes.few; runs = r.runs; kinds = r.kinds; shows = r.shows }

-- ---- with the Ret behind it
returned : (find : Finder) (dev : Development) (image : Image) (scope : ℕ → Bool) (s : Substitution) (place : ℕ) (m : List ℤ) (e : State) → Stands image place (statement_code dev s ++ Ret ∷ []) → IsFollowed find dev image scope s place m e → IsReturned find dev image scope s (length (statement_code dev s ++ Ret ∷ [])) place m e
returned find dev image scope s place m e stands r =
    let code = statement_code dev s in
    let long : length (code ++ Ret ∷ []) ≡ length code + 1 = length-append code (Ret ∷ []) in
    let end = at_place (place + length code) r.cells in
    let stop : step image end ≡ Returns = step-of image (place + length code) Ret [] r.cells (stands-here image (place + length code) Ret [] (stands-second image place code (Ret ∷ []) stands)) in
    record {
      steps = suc r.steps;
      end = end;
      state = r.state;
      returns = (r.leads, stop);
      few = λ h. let k : r.steps ≤ length code = r.few h in omega (arith, k, long);
      runs = r.runs;
      kinds = r.kinds;
      shows = r.shows;
    }

storage : (dev : Development) → IsLawful dev → HasStorage dev
storage dev f = record { values = constants-have dev f; arrays = arrays-have dev f; types = arrays-typed dev f }

-- the statement of a code that has a Ret behind it
before-ret : (find : Finder) (dev : Development) (image : Image) (scope : ℕ → Bool) (s : Substitution) (place : ℕ) (m : List ℤ) (e : State) →
    IsCleanStart find dev image scope s (statement_code dev s ++ Ret ∷ []) place m e → IsCleanStart find dev image scope s (statement_code dev s) place m e
before-ret find dev image scope s place m e t = record {
  range = t.range;
  stands = stands-first image place (statement_code dev s) (Ret ∷ []) t.stands;
  kinds = t.kinds;
  shows = t.shows;
  clean = t.clean;
  ends = t.ends;
}

pub none-among : {P : Type 0} (n : ℕ) → among [] n ≡ true → P
none-among n h = clash false h refl

pub operations_follow : OperationsFollow
operations_follow find dev image f b o low place m e t =
    let body = body_at dev (last dev) o in
    let fact = body-fact dev f o low in
    let below : o < length (level_at dev (last dev)).bodies = subst (λ n. o < n) (last_paired dev f) low in
    let own : IsB0Body dev body = each-at (IsB0Body dev) (level_at dev (last dev)).bodies o blank_body below b.bodies in
    let scope = names_own dev (last dev) (inputs_of dev o) body.outputs in
    let ins = inputs-there dev f o low in
    let outs = outputs-there dev f o low in
    let x : IsRunnable dev scope (names_joined dev (last dev)) (writes_own dev (last dev) body.outputs) body.sub = record {
      types = fact.sub.types;
      stays = fact.sub.stays;
      in_b0 = own.sub;
      known = known dev f b.complete (inputs_of dev o) body.outputs ins outs;
      settable = settable dev f b.complete (inputs_of dev o) body.outputs ins outs;
      inner = local-cells dev f b.complete (inputs_of dev o) body.outputs ins outs body.sub fact.sub (locals-there dev f o low);
    } in
    returned find dev image scope body.sub place m e t.stands
    (statements_follow find dev image (storage dev f) body.sub scope (names_joined dev (last dev)) (writes_own dev (last dev) body.outputs) x place m e (before-ret find dev image scope body.sub place m e t))

pub openings_follow : OpeningsFollow
openings_follow find dev image f b place m e t =
    let init = (level_at dev (last dev)).init in
    let fact = (last_level dev f).init in
    let scope = names_own dev (last dev) [] [] in
    let x : IsRunnable dev scope (names_joined dev (last dev)) (writes_own dev (last dev) []) init = record {
      types = fact.types;
      stays = fact.stays;
      in_b0 = b.init;
      known = known dev f b.complete [] [] (λ n h. none-among n h) (λ n h. none-among n h);
      settable = settable dev f b.complete [] [] (λ n h. none-among n h) (λ n h. none-among n h);
      inner = local-cells dev f b.complete [] [] (λ n h. none-among n h) (λ n h. none-among n h) init fact (init-locals-there dev f);
    } in
    returned find dev image scope init place m e t.stands
    (statements_follow find dev image (storage dev f) init scope (names_joined dev (last dev)) (writes_own dev (last dev) []) x place m e (before-ret find dev image scope init place m e t))

pub returns_end : ReturnsEnd
returns_end find dev image scope s size place m e r = (
  (λ fuel le. (le, r.returns)),
  (λ h. let k : r.steps ≤ size = r.few h in record { steps = r.steps; end = r.end; few = k; done = λ fuel le. (omega (arith, k, le), r.returns) }),
)
