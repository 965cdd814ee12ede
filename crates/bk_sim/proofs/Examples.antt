-- The exchange meets every premise, and its translation follows it.
use Rattle.std.proofs.Common.{◌≡◌, length, refl, arith}
use Rattle.bk_dev.specs.Layout.{cell_count}
use Rattle.bk_b0.specs.Translation.{translation}
use Rattle.bk_gen.specs.Laws.{HasElementsInRange}
use Rattle.bk_gen.proofs.Loads.{translations_load}
use Rattle.bk_sim.specs.Laws.{ExchangeIsFollowed}
use Rattle.bk_sim.proofs.B0Code.{b0_follows, b0_ends}
use Rattle.bk_sim.proofs.ExchangeFacts.{exchange_facts, exchange_in_b0}
use Rattle.bk_sim.proofs.ExchangeCarried.{exchange_meets, exchange_keeps, exchange_carries}
use Rattle.bk_sim.specs.Exchange.{exchange}

cells : cell_count exchange ≡ 6
cells = refl

long : length (translation exchange).code ≡ 32
long = refl

no-elements : HasElementsInRange exchange
no-elements s i h = absurd (omega (arith, h))

pub exchange_is_followed : ExchangeIsFollowed
exchange_is_followed = record {
  facts = exchange_facts;
  in_b0 = exchange_in_b0;
  meets = exchange_meets;
  keeps = exchange_keeps;
  carries = exchange_carries;
  follows = λ find law. b0_follows find exchange exchange_facts (record {
    in_b0 = exchange_in_b0;
    values = exchange_meets find;
    keeps = exchange_keeps find law;
    carries = exchange_carries find law;
  });
  ends = λ find law. b0_ends find exchange exchange_facts (record {
    in_b0 = exchange_in_b0;
    values = exchange_meets find;
    keeps = exchange_keeps find law;
    carries = exchange_carries find law;
  });
  loads = translations_load exchange exchange_facts.lawful exchange_in_b0 no-elements (omega (arith, cells)) (omega (arith, long));
}
