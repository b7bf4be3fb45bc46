use Rattle.std.proofs.Common.{ap, ◌∙◌, ℕ, List}
use Rattle.lease_spec.specs.Table.{Leases}
use Rattle.node_spec.specs.Bodies.{entries_of}
use Rattle.port_leases.specs.TableState.{rows_above}
use Rattle.vip_config.specs.declared.parts.ConfigParts.{ConfigParts}
use Rattle.world_model.specs.Sound.{world_of}
use Rattle.world_spec.specs.Views.{book_of}
use Rattle.world_views.proofs.BookLaws.{are_book}
use Rattle.world_views.proofs.books.book.Goals as goal

pub returns : goal.returns
returns c =
    are_book (world_of c.args.world.now) c.from_vec.result
    (c.from_vec.ensures ∙ c.in_ok-rows.ensures
    ∙ ap (λ (t : Leases). rows_above t.rows 0)
    (c.in_ok-table.ensures
    ∙ ap (λ (bodies : List (List ℕ)). book_of c.config.result.now (entries_of bodies)) c.as_slice.ensures
    ∙ ap (λ (cfg : ConfigParts). book_of cfg (entries_of c.in_ok-bodies.bodies)) c.config.ensures
    ∙ ap (book_of (world_of c.args.world.now).cfg) c.in_ok-bodies.ensures))
