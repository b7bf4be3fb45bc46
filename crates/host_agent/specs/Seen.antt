-- How contracts see an agent and its parts.
use Rattle.std.specs.Prelude.{List}
use Rattle.vip_config.specs.declared.parts.ConfigParts.{ConfigParts}
use Rattle.agent_spec.specs.Agent.{Agent, Host, Site, Traffic, put_host}

-- what is kept is the lists themselves
abbrev pub as_is : {X : Type 0} → X → X
as_is x = x

-- a machine, and the traffic
abbrev pub site : Traffic → Host → Site
site t h = record { traffic = t; host = h }

-- An agent, and the configuration that it runs under.
pub record Core : Type 0 where
  pub config : ConfigParts
  pub lists : Agent

-- the same agent with these lists
abbrev pub with_lists : Core → Agent → Core
with_lists core lists = record core { lists = lists }

-- a machine and the traffic, among the machines
abbrev pub kept_in : List Host → Site → Traffic × List Host
kept_in hosts s = (s.traffic, put_host s.host hosts)
