use Rattle.std.proofs.Common.{◌≢◌, AllPairs, subst}
use Rattle.bk_names.proofs.Places.{texts_differ}
use Rattle.bk_names.proofs.names.Names.len.Goals as goal

pub returns-clause-without_doubles : goal.returns-clause-without_doubles
returns-clause-without_doubles c = subst (λ names. AllPairs (λ a b. a ≢ b) names) c.self.view_is (texts_differ (λ t. t.items) c.self.inside.texts.keys c.len.ensures.unique)
