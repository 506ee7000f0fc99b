-- Slots speak of a program's procedures and variables, and of nothing else.
use Rattle.std.specs.Prelude.{◌≡◌, List, length, map, IsTrue}
use Rattle.std.specs.List.{list_all}
use Rattle.named_form.specs.declared.plan.Slots.{Slots}
use Rattle.named_form.specs.Code.{Written}
use Rattle.named_form.specs.PlainPlan.{var_count}
use Rattle.named_form.specs.ValidPlan.{is_set, states_procedure}

pub record FitsSlots (ps : List Written) (s : Slots) : Type 0 where
  pub kept : length s.kept ≡ length ps
  pub each_kept : IsTrue (list_all (is_set (var_count ps)) s.kept)
  pub fictitious : IsTrue (is_set (var_count ps) (map (λ f. f.var) s.fictitious))
  pub stated : IsTrue (list_all (λ f. states_procedure (length ps) f.value) s.fictitious)
  pub global : IsTrue (is_set (var_count ps) s.global)
  pub compared : IsTrue (is_set (length ps) s.compared)
