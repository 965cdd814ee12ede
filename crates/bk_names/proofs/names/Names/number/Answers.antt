use Rattle.std.proofs.Common.{Some, is_some, map, sym, ap, ◌∙◌}
use Rattle.std.specs.Str.{bytes_eq}
use Rattle.std.specs.List.{position_or_len}
use Rattle.bk_names.specs.Names.{place_among, with_name}
use Rattle.bk_names.proofs.Places.{position_or_len-map, text_stands, known_name, place_with_name, texts-insert_key}
use Rattle.bk_names.proofs.names.Names.number.Goals as goal

pub returns-in-Some-clause-names : goal.returns-in-Some-clause-names
returns-in-Some-clause-names c = sym (known_name c.args.self.now c.args.text.now (ap is_some (sym c.in-Some.ensures.place)))

pub returns-clause-names : goal.returns-clause-names
returns-clause-names c =
    ap (λ keys. map (λ t. t.items) keys) c.in_ok-n.ensures.keys
    ∙ texts-insert_key (λ t. t.items) c.self.inside.texts.keys c.in_ok-copy.copy
    ∙ ap (λ names. with_name names c.in_ok-copy.copy.items) c.self.view_is
    ∙ ap (λ text. with_name c.args.self.now text) c.in_ok-copy.ensures.items

pub returns-clause-number : goal.returns-clause-number
returns-clause-number c =
    ap (λ names. place_among names c.args.text.now) (returns-clause-names c)
    ∙ place_with_name c.args.self.now c.args.text.now
    ∙ sym (ap Some
    (c.in_ok-n.ensures.index
    ∙ sym (position_or_len-map (λ t. t.items) (bytes_eq c.in_ok-copy.copy.items) c.self.inside.texts.keys)
    ∙ ap (λ names. position_or_len (bytes_eq c.in_ok-copy.copy.items) names) c.self.view_is
    ∙ ap (λ text. position_or_len (bytes_eq text) c.args.self.now) c.in_ok-copy.ensures.items))

pub returns-clause-stands : goal.returns-clause-stands
returns-clause-stands c = text_stands _ c.args.text.now c.in_ok-n.n (returns-clause-number c)
