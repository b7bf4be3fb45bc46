-- The words of this crate, opened where a row is computed on literals.
use Rattle.std.specs.Prelude.{⊤}
use Rattle.mux_spec.specs.Commands.{refused, programs, unprograms, on_program, on_unprogram}
use Rattle.mux_spec.specs.Flows.{note, expire}
use Rattle.mux_spec.specs.Gates.{admit}
use Rattle.mux_spec.specs.Mux.{opened_mux, on_tick}
use Rattle.mux_spec.specs.MuxTable.{mux_hears, mux_step}
use Rattle.mux_spec.specs.Packets.{own_address, to_range, ask_if, to_endpoint, sound, passing, on_packet, agent_number}
use Rattle.mux_spec.specs.Redirects.{on_redirect_ask}
use Rattle.mux_spec.specs.Rows.{starts, new_rows, row_at, set_row}
use Rattle.mux_spec.specs.Services.{services_of, endpoint_of, chosen_for}

-- what an answer unfolds
unfoldable pub mux_on_literals : ⊤
unfolding refused programs unprograms on_program on_unprogram note expire admit opened_mux on_tick mux_hears
    mux_step own_address to_range ask_if to_endpoint sound passing on_packet agent_number on_redirect_ask starts
    new_rows row_at set_row services_of endpoint_of chosen_for
mux_on_literals = tt
