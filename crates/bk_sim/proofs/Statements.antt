-- The code of a statement follows it.
use Rattle.std.proofs.Common.{◌≡◌, inl, inr, ℕ, zero, suc, ◌+◌, ℤ, pos, neg_ℤ, List, [], ◌∷◌, ◌++◌, length, map, refl, sym, ◌∙◌, ap, subst, Bool, true, false, ◌||◌, cond, nat_eq, arith, Some, append_assoc}
use Rattle.bk_form.specs.Formula.{Formula}
use Rattle.bk_form.specs.Search.{Finder}
use Rattle.bk_form.specs.Environment.{State, at_state}
use Rattle.bk_form.specs.Defined.{Fits}
use Rattle.bk_form.proofs.Members.{or-left, or-right}
use Rattle.bk_gsl.specs.Substitution.{Substitution, skip, assign, if_else, any, seq, assert, loop}
use Rattle.bk_gsl.specs.State.{holds, with_values, among, over}
use Rattle.bk_gsl.specs.Run.{assigned, Turns, Bounded, Runs, Ends}
use Rattle.bk_gsl.specs.Clean.{Clean}
use Rattle.bk_gsl.proofs.States.{clash, over-off, among-append, nat_eq-same}
use Rattle.bk_dev.specs.Development.{Development, int_max}
use Rattle.bk_dev.specs.Facts.{AreNew, StaysIn}
use Rattle.bk_dev.specs.Layout.{arrays_of, locals}
use Rattle.bk_code.specs.declared.image.Image.{Image}
use Rattle.bk_code.specs.declared.instruction.Inst.{Inst}
use Rattle.bk_code.specs.declared.instruction.Inst.TheVariants.{Jump, JumpZero}
use Rattle.bk_code.specs.Numbers.{int_max as code_max, truth_number}
use Rattle.bk_code.specs.Step.{Config}
use Rattle.bk_b0.specs.Translation.{value_code, statement_code}
use Rattle.bk_sim.specs.Shown.{seen, ShownIn, KindsHold}
use Rattle.bk_b0.specs.Cells.{IsKnown, IsCell, ValuesHaveKinds, ArraysHaveCells}
use Rattle.bk_sim.specs.Ending.{HasNoLoop}
use Rattle.bk_b0.proofs.TypedB0.{IsTypedB0}
use Rattle.bk_sim.specs.Placed.{Stands}
use Rattle.bk_sim.proofs.Steps.{Goes, Passes, here, goes-if, goes-at, stays-here, stands-first, stands-second, stands-rest, pass-then, fork_code, pass-fork, turn_code, loop_code, pass-end, pass-turn, leads-then}
use Rattle.bk_sim.proofs.Terms.{condition-passes}
use Rattle.bk_sim.proofs.Kept.{with-seen, locals-typed}
use Rattle.bk_sim.proofs.Assignments.{assigned-shown}

-- the code goes to the place behind it with cells that show a state to which the statement runs; without loops within as many steps as it has instructions
pub record Ran (find : Finder) (dev : Development) (image : Image) (scope : ℕ → Bool) (s : Substitution) (place : ℕ) (m : List ℤ) (e : State) : Type 0 where
  pub cells : List ℤ
  pub state : State
  pub passes : Passes image (HasNoLoop s) place (statement_code dev s) [] m [] cells
  pub runs : Runs find dev.table s e state
  pub kinds : KindsHold dev cells
  pub shows : ShownIn dev scope cells state

-- ---- forks
fork-first : (image : Image) (place : ℕ) (xs ys : List Inst) → Stands image place (fork_code xs ys) → Stands image (place + 1) xs
fork-first image place xs ys h = stands-first image (place + 1) xs (Jump (pos (length ys + 1)) ∷ ys) (stands-rest image place (JumpZero (pos (length xs + 2))) (xs ++ Jump (pos (length ys + 1)) ∷ ys) h)

fork-second : (image : Image) (place : ℕ) (xs ys : List Inst) → Stands image place (fork_code xs ys) → Stands image (place + (length xs + 2)) ys
fork-second image place xs ys h =
    let at : place + 1 + length xs + 1 ≡ place + (length xs + 2) = omega arith in
    subst (λ n. Stands image n ys) at (stands-rest image (place + 1 + length xs) (Jump (pos (length ys + 1))) ys (stands-second image (place + 1) xs (Jump (pos (length ys + 1)) ∷ ys)
    (stands-rest image place (JumpZero (pos (length xs + 2))) (xs ++ Jump (pos (length ys + 1)) ∷ ys) h)))

-- what is visible already is no local
not-new : (scope : ℕ → Bool) (ys : List ℕ) → AreNew scope ys → (n : ℕ) → scope n ≡ true → among ys n ≡ false
not-new scope [] news n h = refl
not-new scope (y ∷ ys) news n h = by_test (nat_eq n y) refl (not-new scope ys news.1 n h)
  where
    by_test : (b : Bool) → nat_eq n y ≡ b → among ys n ≡ false → b || among ys n ≡ false
    by_test true k rest = clash (scope n) h (ap scope (nat_eq-same n y k) ∙ news.0)
    by_test false k rest = rest

goes-on : (image : Image) (j k l : ℕ) (c d e : Config) → Goes image ⊥ j c d → Goes image ⊥ k d e → Goes image ⊥ l c e
goes-on image j k l c d e p q = record { steps = q.steps + p.steps; few = λ h. absurd h; leads = leads-then image p.steps q.steps c d e p.leads q.leads }

module _ (find : Finder) (dev : Development) (image : Image) (most : code_max image ≡ int_max dev) (constants : ValuesHaveKinds dev dev.values) (arrays_there : ArraysHaveCells dev) where
  abbrev Test : Formula → State → Bool
  Test p e = holds find dev.table e p

  -- ---- loops
  module _ (scope : ℕ → Bool) (p : Formula) (s : Substitution) (i v : Formula) (place : ℕ)
      (test_passes : (m : List ℤ) (e : State) → KindsHold dev m → ShownIn dev scope m e → Fits find (at_state dev.table e) (arrays_of dev) p → Stands image place (value_code dev p) → Passes image ⊥ place (value_code dev p) [] m (truth_number (Test p e) ∷ []) m)
      (body_runs : (m : List ℤ) (e : State) → KindsHold dev m → ShownIn dev scope m e → Clean find dev.table (Some (arrays_of dev)) s e → Ends find dev.table s e → Ran find dev image scope s (place + length (value_code dev p) + 1) m e)
      (stands : Stands image place (loop_code (value_code dev p) (statement_code dev s))) where
    abbrev code : List Inst
    code = loop_code (value_code dev p) (statement_code dev s)

    record Turned (m : List ℤ) (e : State) : Type 0 where
      count : ℕ
      after : List ℤ
      state : State
      passes : Passes image ⊥ place code [] m [] after
      turns : Turns (Runs find dev.table s) (Test p) count e state
      kinds : KindsHold dev after
      shows : ShownIn dev scope after state

    abbrev IsClean : State → Type 0
    IsClean e = Clean find dev.table (Some (arrays_of dev)) (loop p s i v) e

    -- the test where it is known
    tested : (m : List ℤ) (e : State) (b : Bool) → Test p e ≡ b → KindsHold dev m → ShownIn dev scope m e → IsClean e → Stands image place (value_code dev p) → Passes image ⊥ place (value_code dev p) [] m (truth_number b ∷ []) m
    tested m e b h kinds shows clean at = subst (λ x. Passes image ⊥ place (value_code dev p) [] m (truth_number x ∷ []) m) h (test_passes m e kinds shows (clean 0 e refl).1 at)

    stopped : (m : List ℤ) (e : State) → Test p e ≡ false → KindsHold dev m → ShownIn dev scope m e → IsClean e → Turned m e
    stopped m e h kinds shows clean = record {
      count = 0;
      after = m;
      state = e;
      passes = pass-end image ⊥ place (value_code dev p) (statement_code dev s) [] m stands (tested m e false h kinds shows clean);
      turns = (h, refl);
      kinds = kinds;
      shows = shows;
    }

    later-clean : (e g : State) → Test p e ≡ true → Runs find dev.table s e g → IsClean e → IsClean g
    later-clean e g h r clean n f reached = clean (suc n) f (h, (g, r, reached))

    turned : (n : ℕ) (m : List ℤ) (e : State) → Bounded (Runs find dev.table s) (Ends find dev.table s) (Test p) n e → KindsHold dev m → ShownIn dev scope m e → IsClean e → Turned m e
    turned zero m e bounded kinds shows clean = stopped m e bounded kinds shows clean
    turned (suc n) m e (inl h) kinds shows clean = stopped m e h kinds shows clean
    turned (suc n) m e (inr bounded) kinds shows clean = by_test (λ l g b k w c. turned n l g b k w c) (Test p e) refl
      where
        by_test : ((l : List ℤ) (g : State) → Bounded (Runs find dev.table s) (Ends find dev.table s) (Test p) n g → KindsHold dev l → ShownIn dev scope l g → IsClean g → Turned l g) → (b : Bool) → Test p e ≡ b → Turned m e
        by_test again false h = stopped m e h kinds shows clean
        by_test again true h =
            let r = body_runs m e kinds shows ((clean 0 e refl).2 h).0 bounded.0 in
            let w = again r.cells r.state (bounded.1 r.state r.runs) r.kinds r.shows (later-clean e r.state h r.runs clean) in
            let turn = pass-turn image ⊥ place (value_code dev p) (statement_code dev s) [] m r.cells stands (tested m e true h kinds shows clean) (λ at. goes-if image ⊥ (HasNoLoop s) (length (statement_code dev s)) _ _ (λ k. absurd k) r.passes) in
            record {
              count = suc w.count;
              after = w.after;
              state = w.state;
              passes = goes-on image (length code) (length code) (length code) (here place [] m) (here place [] r.cells) (here (place + length code) [] w.after) turn w.passes;
              turns = (h, (r.state, r.runs, w.turns));
              kinds = w.kinds;
              shows = w.shows;
            }

  -- ---- statements
  pub statement-runs : (s : Substitution) (scope above writable : ℕ → Bool) → StaysIn scope above writable s → IsTypedB0 dev s → ((n : ℕ) → scope n ≡ true → IsKnown dev n) → ((n : ℕ) → writable n ≡ true → IsCell dev n × (scope n ≡ true)) → ((n : ℕ) → among (locals s) n ≡ true → IsCell dev n) →
      (place : ℕ) (m : List ℤ) (e : State) → KindsHold dev m → ShownIn dev scope m e → Clean find dev.table (Some (arrays_of dev)) s e → Ends find dev.table s e → Stands image place (statement_code dev s) → Ran find dev image scope s place m e
  statement-runs skip scope above writable stays b known cells inner place m e kinds shows clean ends stands = record {
    cells = m;
    state = e;
    passes = let same : place ≡ place + 0 = omega arith in goes-at image (HasNoLoop skip) 0 place (place + 0) (here place [] m) [] m same (stays-here image (HasNoLoop skip) 0 (here place [] m));
    runs = refl;
    kinds = kinds;
    shows = shows;
  }
  statement-runs (assign ps) scope above writable stays b known cells inner place m e kinds shows clean ends stands =
      let r = assigned-shown find dev image most constants arrays_there scope known (HasNoLoop (assign ps)) m kinds e shows above writable ps stays cells b clean place stands in
      record { cells = r.cells; state = assigned find dev.table ps e; passes = r.passes; runs = refl; kinds = r.kinds; shows = r.shows }
  statement-runs (seq s t) scope above writable stays b known cells inner place m e kinds shows clean ends stands =
      let cs = statement_code dev s in
      let ct = statement_code dev t in
      let split : (n : ℕ) → among (locals s ++ locals t) n ≡ (among (locals s) n || among (locals t) n) = λ n. among-append (locals s) (locals t) n in
      let r = statement-runs s scope above writable stays.0 b.0 known cells (λ n h. inner n (split n ∙ or-left (among (locals s) n) (among (locals t) n) h)) place m e kinds shows clean.0 ends.0 (stands-first image place cs ct stands) in
      let w = statement-runs t scope above writable stays.1 b.1 known cells (λ n h. inner n (split n ∙ or-right (among (locals s) n) (among (locals t) n) h)) (place + length cs) r.cells r.state r.kinds r.shows (clean.1 r.state r.runs) (ends.1 r.state r.runs) (stands-second image place cs ct stands) in
      record {
        cells = w.cells;
        state = w.state;
        passes = pass-then image (HasNoLoop (seq s t)) place cs ct [] [] [] m r.cells w.cells
            (goes-if image (HasNoLoop (seq s t)) (HasNoLoop s) (length cs) _ _ (λ k. k.0) r.passes)
            (goes-if image (HasNoLoop (seq s t)) (HasNoLoop t) (length ct) _ _ (λ k. k.1) w.passes);
        runs = (r.state, r.runs, w.runs);
        kinds = w.kinds;
        shows = w.shows;
      }
  statement-runs (any zs s) scope above writable stays b known cells inner place m e kinds shows clean ends stands =
      let outer : (n : ℕ) → among zs n ≡ true → IsCell dev n = λ n h. inner n (among-append zs (locals s) n ∙ or-left (among zs n) (among (locals s) n) h) in
      let vs = map (seen dev m) zs in
      let typed = locals-typed dev m kinds zs b.0 outer in
      let r = statement-runs s (λ n. among zs n || scope n) above (λ n. among zs n || writable n) stays.2 b.1
      (λ n h. by_among n (λ (c : Bool). c || scope n ≡ true) (IsKnown dev n) (λ k q. or-right _ _ (outer n k).1) (λ k q. known n q) h)
      (λ n h. by_among n (λ (c : Bool). c || writable n ≡ true) (IsCell dev n × (among zs n || scope n ≡ true)) (λ k q. (outer n k, or-left (among zs n) (scope n) k)) (λ k q. let w = cells n q in (w.0, or-right (among zs n) (scope n) w.1)) h)
      (λ n h. inner n (among-append zs (locals s) n ∙ or-right (among zs n) (among (locals s) n) h))
      place m (with_values e zs vs) kinds
      (λ n h. with-seen (seen dev m) zs e n ∙ by_local n (among zs n) h)
      (clean vs typed) (ends vs typed) stands in
      record {
        cells = r.cells;
        state = over (among zs) e r.state;
        passes = r.passes;
        runs = (vs, typed, (r.state, r.runs, refl));
        kinds = r.kinds;
        shows = λ n h. over-off (among zs) e r.state n (new n h) ∙ r.shows n (or-right (among zs n) (scope n) h);
      }
    where
      by_among : (n : ℕ) (P : Bool → Type 0) (Q : Type 0) → (among zs n ≡ true → P true → Q) → (among zs n ≡ false → P false → Q) → P (among zs n) → Q
      by_among n P Q f g h = go (among zs n) refl h
        where
          go : (c : Bool) → among zs n ≡ c → P c → Q
          go true k q = f k q
          go false k q = g k q

      by_local : (n : ℕ) (c : Bool) → c || scope n ≡ true → cond c (seen dev m n) (e n) ≡ seen dev m n
      by_local n true h = refl
      by_local n false h = shows n h

      new : (n : ℕ) → scope n ≡ true → among zs n ≡ false
      new n h = not-new scope zs stays.0 n h
  statement-runs (assert p s) scope above writable stays b known cells inner place m e kinds shows clean ends stands =
      let r = statement-runs s scope above writable stays.1 b known cells inner place m e kinds shows clean.1 ends.1 stands in
      record { cells = r.cells; state = r.state; passes = r.passes; runs = r.runs; kinds = r.kinds; shows = r.shows }
  statement-runs (if_else p s t) scope above writable stays b known cells inner place m e kinds shows clean ends stands =
      let test = value_code dev p in
      let cs = statement_code dev s in
      let ct = statement_code dev t in
      let L = HasNoLoop (if_else p s t) in
      let fork = fork_code cs ct in
      let same : statement_code dev (if_else p s t) ≡ test ++ fork = append_assoc test (JumpZero (pos (length cs + 2)) ∷ cs) (Jump (pos (length ct + 1)) ∷ ct) in
      let whole = subst (Stands image place) same stands in
      let there = place + length test in
      let behind = stands-second image place test fork whole in
      let split : (n : ℕ) → among (locals s ++ locals t) n ≡ (among (locals s) n || among (locals t) n) = λ n. among-append (locals s) (locals t) n in
      let first = condition-passes find dev image most constants arrays_there scope known m kinds e shows L p b.0 stays.0.visible_only clean.0 place [] (stands-first image place test fork whole) in
      by_test (holds find dev.table e p) refl whole behind first
      (λ h. statement-runs s scope above writable stays.1 b.1 known cells (λ n k. inner n (split n ∙ or-left (among (locals s) n) (among (locals t) n) k)) (there + 1) m e kinds shows (clean.1 h) (ends.0 h) (fork-first image there cs ct behind))
      (λ h. statement-runs t scope above writable stays.2 b.2 known cells (λ n k. inner n (split n ∙ or-right (among (locals s) n) (among (locals t) n) k)) (there + (length cs + 2)) m e kinds shows (clean.2 h) (ends.1 h) (fork-second image there cs ct behind))
      same
    where
      by_test : (c : Bool) → holds find dev.table e p ≡ c → Stands image place (value_code dev p ++ fork_code (statement_code dev s) (statement_code dev t)) → Stands image (place + length (value_code dev p)) (fork_code (statement_code dev s) (statement_code dev t)) →
          Passes image (HasNoLoop s × HasNoLoop t) place (value_code dev p) [] m (truth_number c ∷ []) m →
          (holds find dev.table e p ≡ true → Ran find dev image scope s (place + length (value_code dev p) + 1) m e) → (holds find dev.table e p ≡ false → Ran find dev image scope t (place + length (value_code dev p) + (length (statement_code dev s) + 2)) m e) →
          statement_code dev (if_else p s t) ≡ value_code dev p ++ fork_code (statement_code dev s) (statement_code dev t) → Ran find dev image scope (if_else p s t) place m e
      by_test true h whole behind first left right same =
          let cs = statement_code dev s in
          let ct = statement_code dev t in
          let L = HasNoLoop s × HasNoLoop t in
          let r = left h in
          let fork = pass-fork image L (place + length (value_code dev p)) cs ct [] [] m r.cells true behind (λ k at. goes-if image L (HasNoLoop s) (length cs) _ _ (λ x. x.0) r.passes) (λ k at. absurd (cc)) in
          record {
            cells = r.cells;
            state = r.state;
            passes = subst (λ c. Passes image L place c [] m [] r.cells) (sym same) (pass-then image L place (value_code dev p) (fork_code cs ct) [] (pos 1 ∷ []) [] m m r.cells first fork);
            runs = inl (h, r.runs);
            kinds = r.kinds;
            shows = r.shows;
          }
      by_test false h whole behind first left right same =
          let cs = statement_code dev s in
          let ct = statement_code dev t in
          let L = HasNoLoop s × HasNoLoop t in
          let r = right h in
          let fork = pass-fork image L (place + length (value_code dev p)) cs ct [] [] m r.cells false behind (λ k at. absurd (cc)) (λ k at. goes-if image L (HasNoLoop t) (length ct) _ _ (λ x. x.1) r.passes) in
          record {
            cells = r.cells;
            state = r.state;
            passes = subst (λ c. Passes image L place c [] m [] r.cells) (sym same) (pass-then image L place (value_code dev p) (fork_code cs ct) [] (pos 0 ∷ []) [] m m r.cells first fork);
            runs = inr (h, r.runs);
            kinds = r.kinds;
            shows = r.shows;
          }
  statement-runs (loop p s i v) scope above writable stays b known cells inner place m e kinds shows clean ends stands =
      let test = value_code dev p in
      let body = statement_code dev s in
      let same : statement_code dev (loop p s i v) ≡ loop_code test body = append_assoc test (JumpZero (pos (length body + 2)) ∷ body) (Jump (neg_ℤ (pos (length test + 1 + length body))) ∷ []) in
      let whole = subst (Stands image place) same stands in
      let inside = stands-first image (place + length test + 1) body (Jump (neg_ℤ (pos (length test + 1 + length body))) ∷ []) (stands-rest image (place + length test) (JumpZero (pos (length body + 2))) (body ++ Jump (neg_ℤ (pos (length test + 1 + length body))) ∷ []) (stands-second image place test (turn_code test body) whole)) in
      let r = turned scope p s i v place
      (λ l g k w fits at. condition-passes find dev image most constants arrays_there scope known l k g w ⊥ p b.0 stays.0.visible_only fits place [] at)
      (λ l g k w c d. statement-runs s scope above writable stays.1 b.1 known cells inner (place + length test + 1) l g k w c d inside) whole ends.0 m e ends.1 kinds shows clean in
      record {
        cells = r.after;
        state = r.state;
        passes = subst (λ c. Passes image ⊥ place c [] m [] r.after) (sym same) r.passes;
        runs = (r.count, r.turns);
        kinds = r.kinds;
        shows = r.shows;
      }
  statement-runs s scope above writable stays b known cells inner place m e kinds shows clean ends stands = absurd b
