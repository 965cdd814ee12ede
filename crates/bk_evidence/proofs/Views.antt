-- The data of values, a level at a time.
use Rattle.std.proofs.Common.{◌≡◌, ℕ, List, [], ◌∷◌, ◌++◌, ◌∙◌, ap, rules, String, Vec, BTreeMap, Global, string_bytes, map}
use Rattle.std.proofs.lemmas.List.{map-append}
use Rattle.serde_json.specs.Data.{Data, Members, null, string, array, object}
use Rattle.serde_json.specs.View.{view, items_of, members_view}
use Rattle.serde_json.specs.declared.value.Value.{Value, String as StringValue, Null, Array, Object, the_lemmas}
use Rattle.serde_json.proofs.Views.{view-Array, view-Object}

pub view_text : (s : String Global) (bytes : List ℕ) → string_bytes s ≡ bytes → view (StringValue s) ≡ string bytes
view_text s bytes e =
    let own : view (StringValue s) ≡ string (string_bytes s) = search (rules, the_lemmas) in
    own ∙ ap string e

pub view_null : view Null ≡ null
view_null = search (rules, the_lemmas)

pub view_list : (v : Vec Value Global) (ds : List Data) → map view v.items ≡ ds → view (Array v) ≡ array (items_of ds)
view_list v ds e = view-Array v ∙ ap (λ xs. array (items_of xs)) e

pub view_object : (m : BTreeMap (String Global) Value) (ms : Members) → members_view m.entries ≡ ms → view (Object m) ≡ object ms
view_object m ms e = view-Object m ∙ ap object e

-- one value more
pub view_more : (new old : List Value) (v : Value) (d : Data) → new ≡ old ++ v ∷ [] → view v ≡ d → map view new ≡ map view old ++ d ∷ []
view_more new old v d e h = ap (map view) e ∙ (map-append view old (v ∷ []) ∙ ap (λ x. map view old ++ x ∷ []) h)
