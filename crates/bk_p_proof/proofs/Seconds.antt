-- Names with their types, looked through in order.
use Rattle.std.specs.Prelude.{◌≡◌, ◌≢◌, ◌⊎◌, ◌↔◌, ℕ, ◌+◌, ◌<◌, ◌≤◌, Bool, true, false, IsTrue, MatchOption, List, [], ◌∷◌, ◌++◌, length, map, take, drop, All, Contains, get_or, position, Option, Some, None, refl}
use Rattle.std.specs.List.{list_any}
use Rattle.std.specs.Str.{bytes_eq}
use Rattle.std.specs.Cmp.Lexicographic.{bytes_decides, nat_list_eq_equiv}
use Rattle.std.proofs.Common.{inl, inr, ⊎_elim, arith, sym, ◌∙◌, ap, subst, is_some, true≢false, if◌then◌else◌}
use Rattle.std.proofs.lemmas.List.{map-append, length-map, length-append, get_or-map, take_more, take_all, drop_more, take-append-drop}
use Rattle.std.proofs.lemmas.List.Elements.{All-push, All-more, All-weaker, All-contains, Contains-get_or, Contains-append_left, Contains-push, Contains-push_cases}
use Rattle.std.proofs.lemmas.List.Quantifiers.{position-Some}
use Rattle.std.proofs.lemmas.Map.Views.{list_any-from_Contains}
use Rattle.indexmap.specs.IndexSet.{insert_key}
use Rattle.bk_names.proofs.Places.{position-map, some_place, list_any-map}
use Rattle.bk_raw.specs.declared.script.RawTyped.{RawTyped}
use Rattle.bk_raw.specs.Trees.ScriptTree.{RawScript}
use Rattle.bk_p_proof.specs.TypedNames.{AreOfOneType, IsOtherwise, IsSecondTypeOf, IsSecondType, script_names}

-- where a list with one more at its end is cut in front of an element, that is the last, or stood before
last_cut : (xs before after : List RawTyped) (n x : RawTyped) → xs ++ n ∷ [] ≡ before ++ x ∷ after → ((xs ≡ before) × (n ≡ x)) ⊎ ((rest : List RawTyped) × (xs ≡ before ++ x ∷ rest))
last_cut [] [] after n x h = let e : n ≡ x = cc in inl (refl, e)
last_cut [] (b ∷ before) after n x h = absurd (omega (arith, ap length h, length-append before (x ∷ after)))
last_cut (y ∷ xs) [] after n x h = let e : y ≡ x = cc in inr (xs, λ i. e i ∷ xs)
last_cut (y ∷ xs) (b ∷ before) after n x h =
    let e : y ≡ b = cc in
    let t : xs ++ n ∷ [] ≡ before ++ x ∷ after = cc in
    ⊎_elim (λ (k : (xs ≡ before) × (n ≡ x)). inl ((λ i. e i ∷ k.0 i), k.1)) (λ (k : (rest : List RawTyped) × (xs ≡ before ++ x ∷ rest)). inr (k.0, λ i. e i ∷ k.1 i)) (last_cut xs before after n x t)

one_more : (done : List RawTyped) (x : RawTyped) → AreOfOneType done → (IsOtherwise done x → ⊥) → AreOfOneType (done ++ x ∷ [])
one_more done x h k before after y e o = by (last_cut done before after x y e)
  where
    by : ((done ≡ before) × (x ≡ y)) ⊎ ((rest : List RawTyped) × (done ≡ before ++ y ∷ rest)) → ⊥
    by (inl c) = k (o.0, subst (λ ns. Contains ns o.0) (sym c.0) o.1, o.2 ∙ ap (λ z. z.name.text) (sym c.1), λ t. o.3 (t ∙ ap (λ z. z.ty) c.1))
    by (inr c) = h before c.0 y c.1 o

-- these have been seen, and these are the texts of their names without doubles, and the first with each of them
pub record Holders (done : List RawTyped) (texts : List (List ℕ)) (first : List RawTyped) : Type 0 where
  pub named : map (λ x. x.name.text) first ≡ texts
  pub among : All (Contains done) first
  pub agree : (z y : RawTyped) → Contains first z → Contains done y → z.name.text ≡ y.name.text → z.ty ≡ y.ty
  pub told : (y : RawTyped) → Contains done y → Contains texts y.name.text
  pub one_type : AreOfOneType done

-- a name that was seen, with its type
seen_again : (done : List RawTyped) (texts : List (List ℕ)) (first : List RawTyped) (x known : RawTyped) → Holders done texts first → Contains first known → known.name.text ≡ x.name.text → known.ty ≡ x.ty → Holders (done ++ x ∷ []) texts first
seen_again done texts first x known h c e t = record {
  named = h.named;
  among = All-weaker (Contains done) (Contains (done ++ x ∷ [])) (λ y k. Contains-append_left done (x ∷ []) y k) first h.among;
  agree = λ z y k l s. ⊎_elim (λ (m : Contains done y). h.agree z y k m s) (λ (m : x ≡ y). sym (h.agree known z c (All-contains (Contains done) first z h.among k) (e ∙ ap (λ w. w.name.text) m ∙ sym s)) ∙ t ∙ ap (λ w. w.ty) m) (Contains-push_cases done x y l);
  told = λ y l. ⊎_elim (λ (m : Contains done y). h.told y m) (λ (m : x ≡ y). subst (Contains texts) (e ∙ ap (λ w. w.name.text) m) (subst (λ ts. Contains ts known.name.text) h.named (in_map first known c))) (Contains-push_cases done x y l);
  one_type = one_more done x h.one_type (λ o. o.3 (sym (h.agree known o.0 c o.1 (e ∙ sym o.2)) ∙ t));
}
  where
    in_map : (first : List RawTyped) (known : RawTyped) → Contains first known → Contains (map (λ w. w.name.text) first) known.name.text
    in_map first known c = subst (Contains (map (λ w. w.name.text) first)) (get_or-map (λ w. w.name.text) first c.0 known [] c.1 ∙ ap (λ w. w.name.text) c.2) (Contains-get_or (map (λ w. w.name.text) first) c.0 [] (omega (arith, c.1, length-map first (λ (w : RawTyped). w.name.text))))

-- one that was not
first_seen : (done : List RawTyped) (texts : List (List ℕ)) (first : List RawTyped) (x : RawTyped) → Holders done texts first → (Contains texts x.name.text → ⊥) → Holders (done ++ x ∷ []) (texts ++ x.name.text ∷ []) (first ++ x ∷ [])
first_seen done texts first x h n = record {
  named = map-append (λ w. w.name.text) first (x ∷ []) ∙ ap (λ ts. ts ++ x.name.text ∷ []) h.named;
  among = All-push (Contains (done ++ x ∷ [])) first x (All-weaker (Contains done) (Contains (done ++ x ∷ [])) (λ y k. Contains-append_left done (x ∷ []) y k) first h.among) (Contains-push done x);
  agree = λ z y k l s. by z y (Contains-push_cases first x z k) (Contains-push_cases done x y l) s;
  told = λ y l. ⊎_elim (λ (m : Contains done y). Contains-append_left texts (x.name.text ∷ []) y.name.text (h.told y m)) (λ (m : x ≡ y). subst (Contains (texts ++ x.name.text ∷ [])) (ap (λ w. w.name.text) m) (Contains-push texts x.name.text)) (Contains-push_cases done x y l);
  one_type = one_more done x h.one_type (λ o. n (subst (Contains texts) o.2 (h.told o.0 o.1)));
}
  where
    by : (z y : RawTyped) → Contains first z ⊎ (x ≡ z) → Contains done y ⊎ (x ≡ y) → z.name.text ≡ y.name.text → z.ty ≡ y.ty
    by z y (inl k) (inl l) s = h.agree z y k l s
    by z y (inl k) (inr l) s = absurd (n (subst (Contains texts) (s ∙ ap (λ w. w.name.text) (sym l)) (h.told z (All-contains (Contains done) first z h.among k))))
    by z y (inr k) (inl l) s = absurd (n (subst (Contains texts) (sym s ∙ ap (λ w. w.name.text) (sym k)) (h.told y l)))
    by z y (inr k) (inr l) s = ap (λ w. w.ty) (sym k ∙ l)

-- ---- as the code has them: keys for texts, references for names
module _ {K R : Type 0} (f : K → List ℕ) (now : R → RawTyped) where
  -- the first k of the names have been seen
  abbrev pub Seen : List R → ℕ → List K → List R → Type 0
  Seen names k keys first = Holders (map now (take k names)) (map f keys) (map now first)

  one_further : (names : List R) (k : ℕ) (x : R) → k < length names → x ≡ get_or names k x → map now (take (k + 1) names) ≡ map now (take k names) ++ now x ∷ []
  one_further names k x l e = ap (map now) (take_more names k x l) ∙ map-append now (take k names) (get_or names k x ∷ []) ∙ ap (λ y. map now (take k names) ++ now y ∷ []) (sym e)

  pub seen_as : (names : List R) (k : ℕ) (keys more : List K) (first firsts : List R) → more ≡ keys → firsts ≡ first → Seen names k keys first → Seen names k more firsts
  seen_as names k keys more first firsts e d h = subst (λ ks. Seen names k ks firsts) (sym e) (subst (λ fs. Seen names k keys fs) (sym d) h)

  -- a key's place is within the names
  pub place_within : (names : List R) (k : ℕ) (keys : List K) (first : List R) (text : List ℕ) (index : ℕ) → Seen names k keys first → Some index ≡ position (λ key. bytes_eq text (f key)) keys → index < length first
  place_within names k keys first text index h p =
      let s = position-Some (bytes_eq text) (map f keys) index [] (position-map f (bytes_eq text) keys ∙ sym p) in
      omega (arith, s.0, ap length h.named, length-map first now, length-map (map now first) (λ (w : RawTyped). w.name.text))

  holder : (names : List R) (k : ℕ) (keys : List K) (first : List R) (text : List ℕ) (index : ℕ) (known : R) → Seen names k keys first → Some index ≡ position (λ key. bytes_eq text (f key)) keys → known ≡ get_or first index known → Contains (map now first) (now known) × ((now known).name.text ≡ text)
  holder names k keys first text index known h p e =
      let s = position-Some (bytes_eq text) (map f keys) index [] (position-map f (bytes_eq text) keys ∙ sym p) in
      let l = place_within names k keys first text index h p in
      let m : get_or (map now first) index (now known) ≡ now known = get_or-map now first index known (now known) l ∙ ap now (sym e) in
      let i : index < length (map now first) = omega (arith, l, length-map first now) in (
        subst (Contains (map now first)) m (Contains-get_or (map now first) index (now known) i),
        sym (get_or-map (λ w. w.name.text) (map now first) index (now known) [] i ∙ ap (λ w. w.name.text) m) ∙ ap (λ ts. get_or ts index []) h.named ∙ sym ((bytes_decides text (get_or (map f keys) index [])).0 s.1),
      )

  pub seen_known : (names : List R) (k : ℕ) (keys : List K) (first : List R) (text : List ℕ) (index : ℕ) (known x : R) → Seen names k keys first → k < length names → x ≡ get_or names k x → text ≡ (now x).name.text → Some index ≡ position (λ key. bytes_eq text (f key)) keys → known ≡ get_or first index known → (now known).ty ≡ (now x).ty → Seen names (k + 1) keys first
  seen_known names k keys first text index known x h l e w p g t =
      let d = holder names k keys first text index known h p g in
      subst (λ done. Holders done (map f keys) (map now first)) (sym (one_further names k x l e)) (seen_again (map now (take k names)) (map f keys) (map now first) (now x) (now known) h d.0 (d.1 ∙ w) t)

  pub seen_new : (names : List R) (k : ℕ) (keys more : List K) (key : K) (first : List R) (text : List ℕ) (x : R) → Seen names k keys first → k < length names → x ≡ get_or names k x → text ≡ (now x).name.text → f key ≡ text → None ≡ position (λ key. bytes_eq text (f key)) keys → more ≡ insert_key (λ a b. bytes_eq (f a) (f b)) keys key → Seen names (k + 1) more (first ++ x ∷ [])
  seen_new names k keys more key first text x h l e w i p j =
      let no : list_any (λ q. bytes_eq text (f q)) keys ≡ false = sym (some_place (λ q. bytes_eq text (f q)) keys) ∙ ap is_some (sym p) in
      let a : map f more ≡ map f keys ++ (now x).name.text ∷ [] = ap (map f) (j ∙ ap (λ b. if b then keys else keys ++ key ∷ []) (ap (λ t. list_any (λ q. bytes_eq t (f q)) keys) i ∙ no)) ∙ map-append f keys (key ∷ []) ∙ ap (λ t. map f keys ++ t ∷ []) (i ∙ w) in
      let absent : Contains (map f keys) (now x).name.text → ⊥ = λ c. true≢false (sym (list_any-from_Contains nat_list_eq_equiv (now x).name.text (map f keys) c) ∙ list_any-map f (bytes_eq (now x).name.text) keys ∙ ap (λ t. list_any (λ q. bytes_eq t (f q)) keys) (sym w) ∙ no) in
      subst (λ done. Holders done (map f more) (map now (first ++ x ∷ []))) (sym (one_further names k x l e)) (subst (λ texts. Holders (map now (take k names) ++ now x ∷ []) texts (map now (first ++ x ∷ []))) (sym a) (subst (λ firsts. Holders (map now (take k names) ++ now x ∷ []) (map f keys ++ (now x).name.text ∷ []) firsts) (sym (map-append now first (x ∷ []))) (first_seen (map now (take k names)) (map f keys) (map now first) (now x) h absent)))

  pub second_found : (names : List R) (k : ℕ) (keys : List K) (first : List R) (text : List ℕ) (index : ℕ) (known x : R) → Seen names k keys first → k < length names → x ≡ get_or names k x → text ≡ (now x).name.text → Some index ≡ position (λ key. bytes_eq text (f key)) keys → known ≡ get_or first index known → (now known).ty ≢ (now x).ty → IsSecondTypeOf (map now names) (now x).name.at
  second_found names k keys first text index known x h l e w p g t =
      let d = holder names k keys first text index known h p g in
      record {
        before = map now (take k names);
        found = now x;
        after = map now (drop (k + 1) names);
        splits = ap (map now) (sym (take-append-drop k names) ∙ ap (λ r. take k names ++ r) (drop_more names k x l)) ∙ map-append now (take k names) (get_or names k x ∷ drop (k + 1) names) ∙ ap (λ y. map now (take k names) ++ now y ∷ map now (drop (k + 1) names)) (sym e);
        so_far = h.one_type;
        otherwise = (now known, All-contains (Contains (map now (take k names))) (map now first) (now known) h.among d.0, d.1 ∙ w, t);
        starts = refl;
      }

-- ---- scripts
module _ {R : Type 0} (now : R → RawTyped) where
  pub second_in : (scripts : List RawScript) (k : ℕ) (s : RawScript) (names refs : List R) (r : Option ℕ) (place : ℕ) → All (λ s. AreOfOneType (script_names s)) (take k scripts) → k < length scripts → s ≡ get_or scripts k s → map now names ≡ script_names s → refs ≡ names → MatchOption r (AreOfOneType (map now refs)) (IsSecondTypeOf (map now refs)) → r ≡ Some place → IsSecondType scripts place
  second_in scripts k s names refs r place h l e n d m i = record {
    before = take k scripts;
    script = s;
    after = drop (k + 1) scripts;
    splits = sym (take-append-drop k scripts) ∙ ap (λ r. take k scripts ++ r) (drop_more scripts k s l) ∙ ap (λ t. take k scripts ++ t ∷ drop (k + 1) scripts) (sym e);
    so_far = h;
    second = subst (λ ns. IsSecondTypeOf ns place) (ap (map now) d ∙ n) (subst (λ o. MatchOption o (AreOfOneType (map now refs)) (IsSecondTypeOf (map now refs))) i m);
  }

  pub none_in : (scripts : List RawScript) (k : ℕ) (s : RawScript) (names refs : List R) (r : Option ℕ) → All (λ s. AreOfOneType (script_names s)) (take k scripts) → k < length scripts → s ≡ get_or scripts k s → map now names ≡ script_names s → refs ≡ names → MatchOption r (AreOfOneType (map now refs)) (IsSecondTypeOf (map now refs)) → r ≡ None → All (λ s. AreOfOneType (script_names s)) (take (k + 1) scripts)
  none_in scripts k s names refs r h l e n d m i = All-more (λ s. AreOfOneType (script_names s)) scripts k s l h (subst (λ s. AreOfOneType (script_names s)) e (subst AreOfOneType (ap (map now) d ∙ n) (subst (λ o. MatchOption o (AreOfOneType (map now refs)) (IsSecondTypeOf (map now refs))) i m)))

pub no_place : (r : Option ℕ) → ((place : ℕ) → r ≡ Some place → ⊥) → r ≡ None
no_place None n = refl
no_place (Some p) n = absurd (n p refl)

pub all_seen : (scripts : List RawScript) (k : ℕ) → All (λ s. AreOfOneType (script_names s)) (take k scripts) → length scripts ≤ k → All (λ s. AreOfOneType (script_names s)) scripts
all_seen scripts k h l = subst (All (λ s. AreOfOneType (script_names s))) (take_all k scripts l) h

-- what a test that is false tells
pub told_false : {A : Type 0} (b : Bool) → (IsTrue b ↔ A) → b ≡ false → A → ⊥
told_false b h e a = true≢false (sym (h.1 a) ∙ e)

pub told_true : {A : Type 0} (b : Bool) → (IsTrue b ↔ A) → b ≡ true → A
told_true b h e = h.0 e
