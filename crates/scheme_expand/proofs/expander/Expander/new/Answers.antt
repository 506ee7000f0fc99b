use Rattle.std.proofs.Common.{false, length}
use Rattle.std.proofs.lemmas.List.{length-map}
use Rattle.scheme_expand.proofs.Expanding.{fresh_flags, words_fit}
use Rattle.scheme_expand.proofs.expander.Expander.new.Goals as goal

pub returns-clause-core : goal.returns-clause-core
returns-clause-core c = λ κ f e h free size. record {
  fits = f;
  source = e;
  library = free;
  flags =
      fresh_flags (length c.args.library.now) _ _ _ κ.names c.new-changed.ensures.items c.new-changed.ensures.len
      c.in_ok-resize.ensures.items size;
  size = length-map κ.names (λ x. false);
  made = c.in_ok-new.ensures κ (words_fit κ f) h size;
}
