use Rattle.std.proofs.Common.{◌≡◌, None, false, ◌∙◌, ap, sym, rules}
use Rattle.std.specs.Prelude.{is_some}
use Rattle.std.specs.Map.{lookup}
use Rattle.std.specs.Str.{bytes_eq}
use Rattle.bk_status.proofs.FirstPlaces.{place_put, none_there}
use Rattle.bk_status.proofs.named.add_first.Goals as goal

pub returns : goal.returns
returns c = λ other.
    let missing : is_some c.get.result ≡ false = search rules in
    let none : lookup (λ q. bytes_eq c.args.name.items q.items) c.args.places.now.entries ≡ None =
    ap (λ t. lookup (λ q. bytes_eq t q.items) c.args.places.now.entries) (sym c.as_slice.ensures.value) ∙ (sym c.get.ensures.value ∙ none_there c.get.result missing) in
    ap (lookup (λ k. bytes_eq other k.items)) c.in_ok-insert.ensures.entries
    ∙ place_put (λ k. k.items) c.args.places.now.entries c.args.name c.args.place other none
