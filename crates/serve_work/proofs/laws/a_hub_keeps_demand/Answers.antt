use Rattle.serve_work.proofs.HubLives.{hub_demand_is, taken_out_is}
use Rattle.serve_work.proofs.laws.a_hub_keeps_demand.Goals as goal

pub returns : goal.returns
returns c = record { taken_out = taken_out_is; demand = hub_demand_is c.life_demand_law.ensures.bare }
