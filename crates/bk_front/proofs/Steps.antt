-- Steps over the component files, up to their chain.
use Rattle.std.specs.Prelude.{◌≡◌, ◌<◌, ◌≤◌, ◌+◌, ℕ, zero, suc, true, false, List, [], ◌∷◌, ◌++◌, length, map, take, drop, All, Option, None, Some, Result, Ok, Err, IfErr, refl}
use Rattle.std.specs.List.{AllZip}
use Rattle.std.specs.Result.{IsErrAnd}
use Rattle.std.proofs.Common.{arith, ap, get_or, sym, subst, ◌∙◌, Vec, Global}
use Rattle.std.proofs.lemmas.List.{length-append, length-map, take_all}
use Rattle.std.proofs.lemmas.List.Elements.{All-nil, All-cons, All-push, All-weaker}
use Rattle.std.proofs.lemmas.Slice.Zip.{all_zipped_more, AllZip-long}
use Rattle.std.proofs.Math.Seq.{take-append-add}
use Rattle.bk_limits.specs.declared.TheConstants.{GREATEST_TREE_HEIGHT}
use Rattle.bk_form.specs.declared.token.Token.{Token}
use Rattle.bk_raw.specs.Trees.ComponentTree.{RawComponent, component_height}
use Rattle.bk_raw.specs.Grammar.ComponentSpelling.{SpellsComponent}
use Rattle.bk_raw.specs.Errors.Limits.{IsLowComponent, IsShallow, IsTooDeep}
use Rattle.bk_raw.specs.Errors.Places.{IsComponentFault, byte_at}
use Rattle.bk_sources.specs.Files.{Has, IsFirst, IsShallowText}
use Rattle.bk_sources.proofs.FileSteps.{bytes_of}
use Rattle.bk_sources.proofs.Turns.{split_at, length_front, front_on, all_middle, zip_at, zip_has}
use Rattle.bk_front.specs.declared.project_file.LineKind.{LineKind}
use Rattle.bk_front.specs.declared.reading.Read.{Read}
use Rattle.bk_front.specs.declared.reading.Read.TheVariants.{Component, High}
use Rattle.bk_front.specs.Chain.{Link, may_stand_below, links, is_for, names_above}
use Rattle.bk_front.specs.Project.{IsWritten, IsLow, IsHigh, IsUnwritten, IsChained, IsUnchained, AreChained}
use Rattle.bk_front.specs.Stages.{IsReadOf}
use Rattle.bk_front.proofs.ProjectFiles.{and_front}

-- what a `?` hands on
pub err_told : {V E : Type 0} (r : Result V E) (e : E) (Q : E → Type 0) → IsErrAnd r (λ x. x ≡ e) → Q e → IfErr r Q
err_told (Ok v) e Q h q = absurd h
err_told (Err x) e Q h q = subst Q (sym h) q

-- ---- the first at fault
pub first_item : {A : Type 0} (Fine Faulty : A → Type 0) (items : List A) (i : ℕ) (x : A) → i < length items → x ≡ get_or items i x → All Fine (take i items) → Faulty x → IsFirst Fine Faulty items i
first_item Fine Faulty items i x l e fine faulty = record {
  before = take i items;
  item = x;
  after = drop (suc i) items;
  splits = split_at items i x l e;
  counted = length_front items i l;
  fine = fine;
  faulty = faulty;
}

place_within : {A : Type 0} (Fine Faulty : A → Type 0) (items : List A) (place : ℕ) → IsFirst Fine Faulty items place → place < length items
place_within Fine Faulty items place f = omega (arith, f.counted, ap length f.splits, length-append f.before (f.item ∷ f.after))

-- ---- what is read
written_of : (text : List ℕ) (r : Read) → IsReadOf text r → Has IsWritten text
written_of text (Component c) h = (c, h.written)
written_of text High h = (h.0, h.1)

pub all_written : (texts : List (List ℕ)) (read : List Read) → AllZip IsReadOf texts read → All (Has IsWritten) texts
all_written texts read h = All-weaker (λ text. (r : Read) × IsReadOf text r) (Has IsWritten) (λ text p. written_of text p.0 p.1) texts (zip_has IsReadOf texts read h)

pub low_read : (text : List ℕ) (tokens : List Token) (c : RawComponent) → IsShallowText text tokens → SpellsComponent c tokens → IsLowComponent c → IsReadOf text (Component c)
low_read text tokens c shallow spelled low = record { written = record { tokens = tokens; shallow = shallow; spelled = spelled }; low = low }

pub high_read : (text : List ℕ) (tokens : List Token) → IsShallowText text tokens → IsShallow tokens × (c : RawComponent) × SpellsComponent c tokens × (GREATEST_TREE_HEIGHT < component_height c) → IsReadOf text High
high_read text tokens shallow (s, c, spelled, high) = (c, record { tokens = tokens; shallow = shallow; spelled = spelled }, λ low. omega (arith, low, high))

-- a text is read beside its tokens
pub zip_more : (texts : List (List ℕ)) (files : List (List Token)) (i : ℕ) (tokens seen : List Token) (old new : List Read) (r : Read) → i < length files → tokens ≡ get_or files i tokens → AllZip IsShallowText texts files → seen ≡ tokens → new ≡ old ++ r ∷ [] → AllZip IsReadOf (take i texts) old
    → ((text : List ℕ) → IsShallowText text seen → IsReadOf text r) → AllZip IsReadOf (take (i + 1) texts) new
zip_more texts files i tokens seen old new r l e shallow s n h is =
    let b = zip_at IsShallowText texts files i tokens l e shallow in
    let fronts : take (i + 1) texts ≡ take i texts ++ b.item ∷ [] = ap (take (i + 1)) b.splits ∙ ap (λ (n : ℕ). take (n + 1) (take i texts ++ b.item ∷ b.back)) (sym b.counted) ∙ take-append-add (take i texts) (b.item ∷ b.back) 1 in
    subst (AllZip IsReadOf (take (i + 1) texts)) (sym n) (subst (λ us. AllZip IsReadOf us (old ++ r ∷ [])) (sym fronts) (all_zipped_more IsReadOf (take i texts) old b.item r h (is b.item (subst (IsShallowText b.item) (sym s) b.so))))

pub unwritten : (text : List ℕ) (tokens : List Token) (place byte : ℕ) → IsShallowText text tokens → IsComponentFault tokens place → byte ≡ byte_at (length text) tokens place → IsUnwritten byte text
unwritten text tokens place byte shallow fault e = (tokens, shallow, (place, fault, e))

pub not_deep : (tokens : List Token) (place : ℕ) → IsShallow tokens → IsTooDeep tokens place → ⊥
not_deep tokens place shallow deep = deep.deep (shallow (place + 1) (omega (arith, deep.inside)))

pub first_high : (texts : List (List ℕ)) (cs : List RawComponent) (rest : List Read) → AllZip IsReadOf texts (map Component cs ++ High ∷ rest) → IsFirst (Has IsLow) IsHigh texts (length cs)
first_high [] [] rest h = absurd h
first_high [] (c ∷ cs) rest h = absurd h
first_high (t ∷ ts) [] rest h = record { before = []; item = t; after = ts; splits = refl; counted = refl; fine = All-nil (Has IsLow); faulty = h.0 }
first_high (t ∷ ts) (c ∷ cs) rest h =
    let r = first_high ts cs rest h.1 in
    record { before = t ∷ r.before; item = r.item; after = r.after; splits = ap (λ us. t ∷ us) r.splits; counted = ap suc r.counted; fine = All-cons (Has IsLow) t r.before (c, h.0) r.fine; faulty = r.faulty }

pub high_within : (texts : List (List ℕ)) (cs : List RawComponent) (rest : List Read) → AllZip IsReadOf texts (map Component cs ++ High ∷ rest) → length cs < length texts
high_within texts cs rest h = place_within _ _ texts (length cs) (first_high texts cs rest h)

pub all_low : (texts : List (List ℕ)) (cs : List RawComponent) → AllZip IsReadOf texts (map Component cs) → AllZip IsLow texts cs
all_low [] [] h = tt
all_low [] (c ∷ cs) h = absurd h
all_low (t ∷ ts) [] h = absurd h
all_low (t ∷ ts) (c ∷ cs) h = (h.0, all_low ts cs h.1)

-- ---- the chain
pub kinds_counted : (kinds : List LineKind) (texts : List (Vec ℕ Global)) → length kinds ≡ length texts → length kinds ≡ length (bytes_of texts)
kinds_counted kinds texts e = e ∙ sym (length-map texts (λ t. t.items))

pub at_kind : (kinds : List LineKind) (i : ℕ) (d : LineKind) → i < length kinds → get_or kinds i d ≡ get_or kinds i (get_or kinds i d)
at_kind [] i d l = absurd (omega (arith, l))
at_kind (k ∷ ks) zero d l = refl
at_kind (k ∷ ks) (suc i) d l = at_kind ks i d (omega (arith, l))

-- the last component, or the one that stood before these
abbrev pub last_item : Option RawComponent → List RawComponent → Option RawComponent
last_item above [] = above
last_item above (c ∷ cs) = last_item (Some c) cs

last_item_push : (above : Option RawComponent) (cs : List RawComponent) (c : RawComponent) → last_item above (cs ++ c ∷ []) ≡ Some c
last_item_push above [] c = refl
last_item_push above (d ∷ cs) c = last_item_push (Some d) cs c

pub last_on : (cs : List RawComponent) (i : ℕ) (c : RawComponent) → i < length cs → c ≡ get_or cs i c → Some c ≡ last_item None (take (i + 1) cs)
last_on cs i c l e = sym (ap (last_item None) (front_on cs i c l e) ∙ last_item_push None (take i cs) c)

-- a component where it stands
abbrev pub link_at : List RawComponent → ℕ → LineKind → RawComponent → Link
link_at cs i k c = record { above = last_item None (take i cs); kind = k; component = c }

links_join : (above : Option RawComponent) (ks js : List LineKind) (cs ds : List RawComponent) → length ks ≡ length cs → links above (ks ++ js) (cs ++ ds) ≡ links above ks cs ++ links (last_item above cs) js ds
links_join above [] js [] ds e = refl
links_join above [] js (c ∷ cs) ds e = absurd (omega (arith, e))
links_join above (k ∷ ks) js [] ds e = absurd (omega (arith, e))
links_join above (k ∷ ks) js (c ∷ cs) ds e = ap (λ ls. record { above = above; kind = k; component = c } ∷ ls) (links_join (Some c) ks js cs ds (omega (arith, e)))

length_links : (above : Option RawComponent) (ks : List LineKind) (cs : List RawComponent) → length ks ≡ length cs → length (links above ks cs) ≡ length cs
length_links above [] [] e = refl
length_links above [] (c ∷ cs) e = absurd (omega (arith, e))
length_links above (k ∷ ks) [] e = absurd (omega (arith, e))
length_links above (k ∷ ks) (c ∷ cs) e = ap suc (length_links (Some c) ks cs (omega (arith, e)))

fronts_counted : (kinds : List LineKind) (cs : List RawComponent) (i : ℕ) → length kinds ≡ length cs → i < length cs → length (take i kinds) ≡ length (take i cs)
fronts_counted kinds cs i e l = length_front kinds i (omega (arith, e, l)) ∙ sym (length_front cs i l)

links_at : (kinds : List LineKind) (cs : List RawComponent) (i : ℕ) (k : LineKind) (c : RawComponent) → length kinds ≡ length cs → i < length cs → k ≡ get_or kinds i k → c ≡ get_or cs i c
    → links None kinds cs ≡ links None (take i kinds) (take i cs) ++ link_at cs i k c ∷ links (Some c) (drop (suc i) kinds) (drop (suc i) cs)
links_at kinds cs i k c e l f g =
    ap (λ ks. links None ks cs) (split_at kinds i k (omega (arith, e, l)) f) ∙ ap (links None (take i kinds ++ k ∷ drop (suc i) kinds)) (split_at cs i c l g)
    ∙ links_join None (take i kinds) (k ∷ drop (suc i) kinds) (take i cs) (c ∷ drop (suc i) cs) (fronts_counted kinds cs i e l)

pub first_unchained : (kinds : List LineKind) (cs : List RawComponent) (i : ℕ) (k : LineKind) (c : RawComponent) → length kinds ≡ length cs → i < length cs → k ≡ get_or kinds i k → c ≡ get_or cs i c
    → All IsChained (links None (take i kinds) (take i cs)) → may_stand_below (link_at cs i k c) ≡ false → IsFirst IsChained (IsUnchained c.name.at) (links None kinds cs) i
first_unchained kinds cs i k c e l f g fine wrong = record {
  before = links None (take i kinds) (take i cs);
  item = link_at cs i k c;
  after = links (Some c) (drop (suc i) kinds) (drop (suc i) cs);
  splits = links_at kinds cs i k c e l f g;
  counted = length_links None (take i kinds) (take i cs) (fronts_counted kinds cs i e l) ∙ length_front cs i l;
  fine = fine;
  faulty = (wrong, refl);
}

pub chained_on : (kinds : List LineKind) (cs : List RawComponent) (i : ℕ) (k : LineKind) (c : RawComponent) → length kinds ≡ length cs → i < length cs → k ≡ get_or kinds i k → c ≡ get_or cs i c
    → All IsChained (links None (take i kinds) (take i cs)) → may_stand_below (link_at cs i k c) ≡ true → All IsChained (links None (take (i + 1) kinds) (take (i + 1) cs))
chained_on kinds cs i k c e l f g fine right =
    let one = front_on kinds i k (omega (arith, e, l)) f in
    let two = front_on cs i c l g in
    let whole : links None (take (i + 1) kinds) (take (i + 1) cs) ≡ links None (take i kinds) (take i cs) ++ link_at cs i k c ∷ [] = ap (λ ks. links None ks (take (i + 1) cs)) one ∙ ap (links None (take i kinds ++ k ∷ [])) two ∙ links_join None (take i kinds) (k ∷ []) (take i cs) (c ∷ []) (fronts_counted kinds cs i e l) in
    subst (All IsChained) (sym whole) (All-push IsChained (links None (take i kinds) (take i cs)) (link_at cs i k c) fine right)

pub all_chained : (kinds : List LineKind) (texts : List (List ℕ)) (cs : List RawComponent) (i : ℕ) → length kinds ≡ length texts → AllZip IsLow texts cs → length cs ≤ i → All IsChained (links None (take i kinds) (take i cs)) → AreChained kinds texts cs
all_chained kinds texts cs i counted each l h =
    let all_kinds : length kinds ≤ i = omega (arith, counted, l, AllZip-long IsLow texts cs each) in
    record { counted = counted; each = each; right = subst (λ ks. All IsChained (links None ks cs)) (take_all i kinds all_kinds) (subst (λ us. All IsChained (links None (take i kinds) us)) (take_all i cs l) h) }

-- each is of the kind that its line says
pub of_kind : (kinds : List LineKind) (cs : List RawComponent) (i : ℕ) (k : LineKind) (c : RawComponent) → length kinds ≡ length cs → i < length cs → k ≡ get_or kinds i k → c ≡ get_or cs i c → All IsChained (links None kinds cs) → is_for k c.kind ≡ true
of_kind kinds cs i k c e l f g h =
    and_front (is_for k c.kind) (names_above (last_item None (take i cs)) c.refines) (all_middle IsChained (links None (take i kinds) (take i cs)) (link_at cs i k c) (links (Some c) (drop (suc i) kinds) (drop (suc i) cs)) (subst (All IsChained) (links_at kinds cs i k c e l f g) h))
