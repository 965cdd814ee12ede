-- Obligations of a list, lists item by item, and what is answered where memory is wanting.
use Rattle.std.proofs.Common.{◌≡◌, inl, ℕ, zero, suc, ◌+◌, ◌<◌, ◌≤◌, List, [], ◌∷◌, ◌++◌, map, take, length, get_or, refl, sym, ◌∙◌, ap, subst, arith, below_more, cond, Option, Some, None, Result, Ok, Err, IfOk}
use Rattle.std.specs.Prelude.{Bool, true, false, not, ◌↔◌, find, All, is_some, IfSome, IfNone}
use Rattle.std.specs.List.{AllZip, remove, insert}
use Rattle.std.specs.Global.{Vec}
use Rattle.std.proofs.lemmas.List.{take_more, take_all}
use Rattle.std.proofs.lemmas.Result.{IfOk-weaker}
use Rattle.std.proofs.lemmas.Slice.Zip.{all_zipped_more, AllZip-long}
use Rattle.bk_form.specs.Each.{Each}
use Rattle.bk_form.specs.Table.{Table}
use Rattle.bk_dev.specs.Development.{Development}
use Rattle.bk_dev.specs.Flattened.{flattened}
use Rattle.bk_seq.specs.declared.sequent.Sequent.{Sequent as StoredSequent}
use Rattle.bk_seq.specs.Sequents.{Sequent, sequent_of, Types, IsWithin}
use Rattle.bk_kernel.specs.declared.rule.Rule.{Rule}
use Rattle.bk_kernel.specs.Rules.{makes, IsInstance}
use Rattle.bk_kernel.specs.Derivations.{Leaves, Derives, IsVerdict}
use Rattle.bk_kernel.specs.Standing.{in_order}
use Rattle.bk_kernel.proofs.EachItem.{each-append}
use Rattle.bk_kernel.proofs.Replayed.{first-is-last}
use Rattle.bk_kernel.proofs.Verdicts.{one-verdict}
use Rattle.bk_kernel.specs.declared.replaying.Verdict.{Verdict}
use Rattle.bk_kernel.specs.declared.replaying.Verdict.TheVariants.{Closed}
use Rattle.bk_raw.specs.Trees.ScriptTree.{RawRule, RawScript}
use Rattle.bk_p_proof.specs.Files.{AreScriptsOf}
use Rattle.bk_po.specs.Shown.{named_sequent}
use Rattle.bk_po.specs.declared.obligation.Obligation.{Obligation}
use Rattle.bk_scripts.specs.Parts.{Around}
use Rattle.bk_scripts.specs.Grounding.{StandsFor, around_script, IsGrounded}
use Rattle.bk_scripts.proofs.Alike.{grounded_are_alike}
use Rattle.bk_status.specs.Replayable.{IsReplayable}
use Rattle.bk_status.specs.Rows.{HasRows}
use Rattle.bk_status.specs.declared.table.Row.{Row}
use Rattle.bk_prune.specs.Pruned.{IsNoLonger, HaveSameRows, HasStatesOf, IsPrunedFile, obligation_for, IsWork, ProvesOne, ProvesWithout, NeedsEachRule, IsFinished, CountsLeft}
use Rattle.bk_prune.specs.declared.work.Work.{Work}

-- what holds of each holds of the one that is found
module _ (P : List ℕ × Sequent → Type 0) (p : Obligation → Bool) where
  chosen : (b : Bool) (x : Obligation) (o : Option Obligation) → P (named_sequent x) → IfSome o (λ y. P (named_sequent y)) → IfSome (cond b (Some x) o) (λ y. P (named_sequent y))
  chosen true x o h k = h
  chosen false x o h k = k

  each-found : (list : List Obligation) → Each P (map named_sequent list) → IfSome (find p list) (λ y. P (named_sequent y))
  each-found [] h = tt
  each-found (o ∷ os) h = chosen (p o) o (find p os) h.0 (each-found os h.1)

  pub each_found : (list : List Obligation) (o : Obligation) → find p list ≡ Some o → Each P (map named_sequent list) → P (named_sequent o)
  each_found list o e h = subst (λ x. IfSome x (λ y. P (named_sequent y))) e (each-found list h)

-- what holds of those so far, and of one more
any-default : {X : Type 0} (xs : List X) (i : ℕ) (d e : X) → i < length xs → get_or xs i d ≡ get_or xs i e
any-default [] i d e l = absurd (omega arith)
any-default (x ∷ xs) zero d e l = refl
any-default (x ∷ xs) (suc i) d e l = any-default xs i d e (omega arith)

pub all_more : {X : Type 0} (P : X → Type 0) (xs : List X) (i : ℕ) (x : X) → i < length xs → x ≡ get_or xs i x → ((k : ℕ) (d : X) → k < i → P (get_or xs k d)) → P x → (k : ℕ) (d : X) → k < i + 1 → P (get_or xs k d)
all_more {X} P xs i x l e h p k d less = below_more (λ m. (y : X) → P (get_or xs m y)) i (λ m b y. h m y b) (λ y. subst P (e ∙ any-default xs i x y l) p) k less d

-- ---- rules that one script stands for
abbrev IsLike : Rule → Rule → Type 0
IsLike r q = (table : Table) (s : Sequent) → makes table s r ≡ makes table s q

all-like : (a : Around) (ws : List RawRule) (rs qs : List Rule) → AllZip (StandsFor a) ws rs → AllZip (StandsFor a) ws qs → AllZip IsLike rs qs
all-like a [] [] [] h k = tt
all-like a [] (r ∷ rs) qs h k = absurd h
all-like a [] [] (q ∷ qs) h k = absurd k
all-like a (w ∷ ws) [] qs h k = absurd h
all-like a (w ∷ ws) (r ∷ rs) [] h k = absurd k
all-like a (w ∷ ws) (r ∷ rs) (q ∷ qs) h k = (grounded_are_alike a w r q h.0 k.0, all-like a ws rs qs h.1 k.1)

like-without : (rs qs : List Rule) (k : ℕ) → AllZip IsLike rs qs → AllZip IsLike (remove rs k) (remove qs k)
like-without [] [] zero h = tt
like-without [] [] (suc k) h = tt
like-without [] (q ∷ qs) k h = absurd h
like-without (r ∷ rs) [] k h = absurd h
like-without (r ∷ rs) (q ∷ qs) zero h = h.1
like-without (r ∷ rs) (q ∷ qs) (suc k) h = (h.0, like-without rs qs k h.1)

module _ (table : Table) where
  instance-like : (r q : Rule) (s : Sequent) (news : List Sequent) → IsLike r q → IsInstance table s r news → IsInstance table s q news
  instance-like r q s news h k = record { made = sym (h table s) ∙ k.made; type = k.type; within = k.within }

  leaves-like : (claims : List Sequent) (rs qs : List Rule) (left : List Sequent) → AllZip IsLike rs qs → Leaves table claims rs left → Leaves table claims qs left
  leaves-like claims [] [] left h k = k
  leaves-like claims [] (q ∷ qs) left h k = absurd h
  leaves-like claims (r ∷ rs) [] left h k = absurd h
  leaves-like [] (r ∷ rs) (q ∷ qs) left h k = absurd k
  leaves-like (s ∷ claims) (r ∷ rs) (q ∷ qs) left h k = (k.0, instance-like r q s k.0 h.0 k.1, leaves-like (k.0 ++ claims) rs qs left h.1 k.2)

-- what some of them derive, all others do
derives-too : (dev : Development) (script : RawScript) (rules others : List Rule) (wide table : Table) (s : Sequent) → IsGrounded dev script rules wide → IsGrounded dev script others table → Derives wide rules s → Derives table others s
derives-too dev script rules others wide table s g h d =
    let like = all-like (around_script dev.table dev script) script.rules rules others g.each h.each in
    let there : Derives table rules s = subst (λ t. Derives t rules s) (g.widens ∙ sym h.widens) d in
    leaves-like table (s ∷ []) rules others [] like there

-- and so without one of them
derives-without : (dev : Development) (script : RawScript) (rules others : List Rule) (wide table : Table) (s : Sequent) (k : ℕ) → IsGrounded dev script rules wide → IsGrounded dev script others table → Derives wide (remove rules k) s → Derives table (remove others k) s
derives-without dev script rules others wide table s k g h d =
    let like = all-like (around_script dev.table dev script) script.rules rules others g.each h.each in
    let there : Derives table (remove rules k) s = subst (λ t. Derives t (remove rules k) s) (g.widens ∙ sym h.widens) d in
    leaves-like table (s ∷ []) (remove rules k) (remove others k) [] (like-without rules others k like) there

-- as many rules as are written
all-counted : (dev : Development) (script : RawScript) (rules others : List Rule) (wide table : Table) → IsGrounded dev script rules wide → IsGrounded dev script others table → length rules ≡ length others
all-counted dev script rules others wide table g h =
    let around = around_script dev.table dev script in
    AllZip-long (StandsFor around) script.rules rules g.each ∙ sym (AllZip-long (StandsFor around) script.rules others h.each)

-- what is said of rules on a sequent that is the same
pub closed_is : (table : Table) (rules : List Rule) (s own : Sequent) (v : Verdict) → own ≡ s → IsVerdict table rules own v → v ≡ Closed → Derives table rules s
closed_is table rules s own v e h closed = let derived : Derives table rules own = subst (IsVerdict table rules own) closed h in subst (Derives table rules) e derived

pub is_closed_so : (table : Table) (rules : List Rule) (s own : Sequent) (v : Verdict) → own ≡ s → IsVerdict table rules own v → Derives table rules s → v ≡ Closed
is_closed_so table rules s own v e h d = one-verdict table rules own v Closed h (subst (Derives table rules) (sym e) d)

-- ---- scripts that prove
one-obligation : (a b : Obligation) → Some a ≡ Some b → a ≡ b
one-obligation a b h = cc

-- a script for no obligation proves nothing
pub proves_none : (dev : Development) (list : List Obligation) (script : RawScript) → obligation_for list script ≡ None → ProvesOne dev list script → ⊥
proves_none dev list script none p = let e : None ≡ Some p.obligation = sym none ∙ p.is_for in cc

module _ (dev : Development) (list : List Obligation) (script : RawScript) (work : Work) (w : IsWork dev list script work) where
  -- the obligation that is found is the one that the rules are replayed on
  own-sequent : (o : Obligation) → obligation_for list script ≡ Some o → sequent_of o.sequent ≡ sequent_of work.sequent
  own-sequent o is_for =
      let same = one-obligation o w.obligation (sym is_for ∙ w.is_for) in
      ap (λ (o : Obligation). sequent_of o.sequent) same ∙ sym w.own

  -- rules that derive its sequent prove
  pub closed_proves : Derives work.table work.rules.items (sequent_of work.sequent) → ProvesOne dev list script
  closed_proves closed = record {
    obligation = w.obligation;
    is_for = w.is_for;
    rules = work.rules.items;
    table = work.table;
    grounded = w.grounded;
    derives = subst (Derives work.table work.rules.items) w.own closed;
  }

  -- and where the script proves they derive it
  pub closed_where_proved : ProvesOne dev list script → Derives work.table work.rules.items (sequent_of work.sequent)
  closed_where_proved p =
      let derived = derives-too (flattened dev) script p.rules work.rules.items p.table work.table (sequent_of p.obligation.sequent) p.grounded w.grounded p.derives in
      subst (Derives work.table work.rules.items) (own-sequent p.obligation p.is_for) derived

  -- the same of all rules but one
  pub closed_without : (k : ℕ) → k < length work.rules.items → Derives work.table (remove work.rules.items k) (sequent_of work.sequent) → ProvesWithout dev list script k
  closed_without k within closed = record {
    obligation = w.obligation;
    is_for = w.is_for;
    rules = work.rules.items;
    table = work.table;
    grounded = w.grounded;
    within = within;
    derives = subst (Derives work.table (remove work.rules.items k)) w.own closed;
  }

  pub each_needed : ((k : ℕ) → k < length work.rules.items → Derives work.table (remove work.rules.items k) (sequent_of work.sequent) → ⊥) → NeedsEachRule dev list script
  each_needed none k p =
      let counted = all-counted (flattened dev) script p.rules work.rules.items p.table work.table p.grounded w.grounded in
      let derived = derives-without (flattened dev) script p.rules work.rules.items p.table work.table (sequent_of p.obligation.sequent) k p.grounded w.grounded p.derives in
      none k (subst (λ n. k < n) counted p.within) (subst (Derives work.table (remove work.rules.items k)) (own-sequent p.obligation p.is_for) derived)

-- a script for no obligation has no rule that can be left out
pub needs_none : (dev : Development) (list : List Obligation) (script : RawScript) → obligation_for list script ≡ None → NeedsEachRule dev list script
needs_none dev list script none k p = let e : None ≡ Some p.obligation = sym none ∙ p.is_for in cc

-- ---- rules of which one is taken out and put back
pub put_back : {X : Type 0} (xs : List X) (i : ℕ) (x : X) → i < length xs → x ≡ get_or xs i x → insert (remove xs i) i x ≡ xs
put_back [] i x l e = absurd (omega arith)
put_back (y ∷ ys) zero x l e = ap (λ z. z ∷ ys) e
put_back (y ∷ ys) (suc i) x l e = ap (λ zs. y ∷ zs) (put_back ys i x (omega arith) e)

pub fewer : {X : Type 0} (xs : List X) (i : ℕ) → length (remove xs i) ≤ length xs
fewer [] zero = omega arith
fewer [] (suc i) = omega arith
fewer (x ∷ xs) zero = omega arith
fewer (x ∷ xs) (suc i) = let h = fewer xs i in omega arith

-- ---- answers, or memory that is wanting
-- a text that stays
pub kept_as_it_is : {E : Type 0} (dev : Development) (text : List ℕ) (r : Result (Vec ℕ) E) → IfOk r (λ t. t.items ≡ text) → IfOk r (λ t. IsPrunedFile dev text t.items)
kept_as_it_is dev text r h = IfOk-weaker r (λ (t : Vec ℕ). t.items ≡ text) (λ (t : Vec ℕ). IsPrunedFile dev text t.items) (λ t e. inl e) h

module _ {E : Type 0} (dev : Development) (list : List Obligation) (text : List ℕ) where
  -- what is counted of the scripts that the text has
  pub counted_of : (read : List RawScript) → ((scripts : List RawScript) → AreScriptsOf (text ∷ []) scripts → scripts ≡ read) → (r : Result ℕ E) → IfOk r (λ n. (n ≡ 0) ↔ All (IsFinished dev list) read) → IfOk r (CountsLeft dev list text)
  counted_of read one r h = IfOk-weaker r (λ (n : ℕ). (n ≡ 0) ↔ All (IsFinished dev list) read) (CountsLeft dev list text) (λ n counts scripts reads. subst (λ ss. (n ≡ 0) ↔ All (IsFinished dev list) ss) (sym (one scripts reads)) counts) h

-- ---- open sequents, of which the first stands last
module _ (P : Sequent → Type 0) (held others : List StoredSequent) (first : StoredSequent) (popped : held ≡ others ++ first ∷ []) (each : Each P (in_order held)) where
  both : P (sequent_of first) × Each P (in_order others)
  both = subst (Each P) (first-is-last held others first popped) each

  pub each_of_first : P (sequent_of first)
  each_of_first = both.0

  pub each_of_others : Each P (in_order others)
  each_of_others = both.1

pub each_placed : {X E : Type 0} (P : Sequent → Type 0) (news others after : List Sequent) (r : Result X E) → IfOk r (λ x. after ≡ news ++ others) → Each P news → Each P others → IfOk r (λ x. Each P after)
each_placed P news others after (Ok x) e n o = subst (Each P) (sym e) (each-append P news others n o)
each_placed P news others after (Err x) e n o = e

pub each_replayable : (table : Table) (ss : List Sequent) → Each (Types table) ss → Each IsWithin ss → Each (IsReplayable table) ss
each_replayable table [] t w = tt
each_replayable table (s ∷ ss) t w = (record { types = t.0; within = w.0 }, each_replayable table ss t.1 w.1)

-- ---- values that are there or not
pub some_so : {A : Type 0} (P : A → Type 0) (o : Option A) (x : A) → o ≡ Some x → IfSome o P → P x
some_so P o x e h = subst (λ p. IfSome p P) e h

pub none_so : {A : Type 0} (Q : Type 0) (o : Option A) → o ≡ None → IfNone o Q → Q
none_so Q o e h = subst (λ p. IfNone p Q) e h

pub if_some_so : (P Q : ℕ → Type 0) (o : Option ℕ) → ((k : ℕ) → P k → Q k) → IfSome o P → IfSome o Q
if_some_so P Q None f h = tt
if_some_so P Q (Some k) f h = f k h

pub if_none_so : (P Q : Type 0) (o : Option ℕ) → (P → Q) → IfNone o P → IfNone o Q
if_none_so P Q None f h = f h
if_none_so P Q (Some k) f h = tt

-- nothing is found exactly where that is told
pub none_needed : (N : Type 0) (o : Option ℕ) (b : Bool) → is_some o ≡ not b → IfNone o N → b ≡ true → N
none_needed N None b e h same = h
none_needed N (Some k) b e h same = let other : true ≡ false = e ∙ ap not same in absurd (cc)

pub needed_none : (P : ℕ → Type 0) (o : Option ℕ) (b : Bool) → is_some o ≡ not b → IfSome o P → ((k : ℕ) → P k → ⊥) → b ≡ true
needed_none P None true e h n = refl
needed_none P None false e h n = absurd (cc)
needed_none P (Some k) b e h n = absurd (n k h)

-- ---- states
pub has_states : {E : Type 0} (dev : Development) (before : List RawScript) (text : List ℕ) (after : List RawScript) → AreScriptsOf (text ∷ []) after → (r : Result Bool E) → IfOk r (λ have. have ≡ true → AllZip IsNoLonger before after) → IfOk r (λ have. have ≡ true → HaveSameRows dev before after) → IfOk r (λ has. has ≡ true → HasStatesOf dev before text)
has_states dev before text after reads (Ok b) each same = λ yes. record { after = after; reads = reads; each = each yes; same = same yes }
has_states dev before text after reads (Err e) each same = each

pub each_too : {E : Type 0} (P Q : Type 0) (r : Result Bool E) → IfOk r (λ have. have ≡ true → P) → Q → IfOk r (λ have. have ≡ true → Q)
each_too P Q (Ok b) h q = λ yes. q
each_too P Q (Err e) h q = h

pub has_same_rows : {E : Type 0} (dev : Development) (before after : List RawScript) (rows held : List Row) → held ≡ rows → HasRows dev before rows → (r : Result Bool E) → IfOk r (λ has. has ≡ true → HasRows dev after held) → IfOk r (λ have. have ≡ true → HaveSameRows dev before after)
has_same_rows dev before after rows held e old (Ok b) new = λ yes. record { rows = held; rows_before = subst (HasRows dev before) (sym e) old; rows_after = new yes }
has_same_rows dev before after rows held e old (Err x) new = new

-- no scripts are found
pub none_found : {E : Type 0} (P : List RawScript → Type 0) (r : Result (Option (List RawScript)) E) → IfOk r (λ found. found ≡ None) → IfOk r (λ found. IfSome found P)
none_found P (Ok None) h = tt
none_found P (Ok (Some list)) h = absurd (cc)
none_found P (Err e) h = h

pub none_told : {E : Type 0} (N Q : Type 0) (r : Result (Option (List RawScript)) E) → IfOk r (λ found. N → ⊥) → ((N → ⊥) → Q) → IfOk r (λ found. IfNone found Q)
none_told N Q (Ok None) h f = f h
none_told N Q (Ok (Some list)) h f = tt
none_told N Q (Err e) h f = tt

-- the rows so far, and one more
pub rows_more : (old new : List Row) (i : ℕ) (row other : Row) → i < length old → row ≡ get_or old i row → i < length new → other ≡ get_or new i other → take i new ≡ take i old → other ≡ row → take (i + 1) new ≡ take (i + 1) old
rows_more old new i row other l e m f h s =
    take_more new i other m ∙ ap (λ xs. xs ++ get_or new i other ∷ []) h ∙ ap (λ x. take i old ++ x ∷ []) (sym f ∙ s ∙ e) ∙ sym (take_more old i row l)

pub rows_all : (old new : List Row) (i : ℕ) → length old ≤ i → length new ≤ i → take i new ≡ take i old → new ≡ old
rows_all old new i l m e = sym (take_all i new m) ∙ e ∙ take_all i old l

-- and one script more that is no longer
pub scripts_more : (old new : List RawScript) (i : ℕ) (script other : RawScript) → i < length old → script ≡ get_or old i script → i < length new → other ≡ get_or new i other → AllZip IsNoLonger (take i old) (take i new) → IsNoLonger script other →
    AllZip IsNoLonger (take (i + 1) old) (take (i + 1) new)
scripts_more old new i script other l e m f h s =
    let more = all_zipped_more IsNoLonger (take i old) (take i new) script other h s in
    let first : take i old ++ script ∷ [] ≡ take (i + 1) old = ap (λ r. take i old ++ r ∷ []) e ∙ sym (take_more old i script l) in
    let second : take i new ++ other ∷ [] ≡ take (i + 1) new = ap (λ r. take i new ++ r ∷ []) f ∙ sym (take_more new i other m) in
    subst (λ ys. AllZip IsNoLonger (take (i + 1) old) ys) second (subst (λ xs. AllZip IsNoLonger xs (take i new ++ other ∷ [])) first more)

pub scripts_all : (old new : List RawScript) (i : ℕ) → length old ≤ i → length new ≤ i → AllZip IsNoLonger (take i old) (take i new) → AllZip IsNoLonger old new
scripts_all old new i l m h = subst (λ ys. AllZip IsNoLonger old ys) (take_all i new m) (subst (λ xs. AllZip IsNoLonger xs (take i new)) (take_all i old l) h)
