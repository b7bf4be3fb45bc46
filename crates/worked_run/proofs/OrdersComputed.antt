-- Commands to a mux, by computing.
use Rattle.std.proofs.Common.{refl}
use Rattle.node_spec.proofs.OnLiterals.{node_on_literals}
use Rattle.mux_spec.proofs.OnLiterals.{mux_on_literals}
use Rattle.worked_run.proofs.OnLiterals.{below_on_literals, packets_on_literals}
use Rattle.worked_run.specs.MuxOrders.{IsRefused, Programs, Unprograms, NotIts, Untaken, Redirects}

pub is_refused : IsRefused
unfolding node_on_literals mux_on_literals below_on_literals packets_on_literals
is_refused = record {
  old_epoch = refl;
  old_epoch_leaves = refl;
  earlier_boot = refl;
  earlier_boot_leaves = refl;
  later_boot = refl;
  hello = refl;
}

pub programs : Programs
unfolding node_on_literals mux_on_literals below_on_literals packets_on_literals
programs = record {
  first = refl;
  first_row = refl;
  again = refl;
  other_machine = refl;
  other_machine_row = refl;
  greater = refl;
  greater_row = refl;
  lesser = refl;
  lesser_row = refl;
  raises_all_the_same = refl;
  raised_epoch = refl;
  no_row = refl;
}

pub unprograms : Unprograms
unfolding node_on_literals mux_on_literals below_on_literals packets_on_literals
unprograms = record {
  same = refl;
  same_row = refl;
  greater = refl;
  greater_row = refl;
  greater_kept = refl;
  lesser = refl;
  lesser_row = refl;
  unknown = refl;
  late = refl;
}

pub not_its : NotIts
unfolding node_on_literals mux_on_literals below_on_literals packets_on_literals
not_its = record {
  machine = refl;
  no_vip = refl;
  above = refl;
  unprogram = refl;
  no_raise = refl;
}

pub untaken : Untaken
unfolding node_on_literals mux_on_literals below_on_literals packets_on_literals
untaken = record {
  of_other = refl;
  of_agent = refl;
  of_machine = refl;
  of_router = refl;
  other_message = refl;
  redirect = refl;
  redirect_of_replica = refl;
  redirect_asked = refl;
  no_frame = refl;
  no_kind_of_frame = refl;
  no_message = refl;
}

pub redirects : Redirects
unfolding node_on_literals mux_on_literals below_on_literals packets_on_literals
redirects = record {
  both = refl;
  no_row = refl;
  no_range = refl;
  no_machine = refl;
}
