-- The words of the subject, each from the file that defines it: what most proofs name, brought to them by one module.
pub use Rattle.ipcz_base.specs.Ends.{end_at, has_end, opposite_end, same_end}
unfoldable pub use Rattle.ipcz_base.specs.Indexed.{place_at, put_place}
pub use Rattle.ipcz_base.specs.Items.{ends_in, is_gone_item, is_mark}
pub use Rattle.ipcz_base.specs.Limits.{no_number}
pub use Rattle.ipcz_base.specs.Links.{same_link}
unfoldable pub use Rattle.ipcz_base.specs.Links.{has_link, is_central, word_of}
pub use Rattle.ipcz_base.specs.Sides.{opposite, same_side}
pub use Rattle.ipcz_base.specs.Totals.{total_below, total_list}
unfoldable pub use Rattle.ipcz_base.specs.Totals.{total}
pub use Rattle.ipcz_base.specs.declared.descriptor.Descriptor.{Descriptor}
pub use Rattle.ipcz_base.specs.declared.end.End.{End}
pub use Rattle.ipcz_base.specs.declared.item.Item.{Item}
pub use Rattle.ipcz_base.specs.declared.item.Item.TheVariants.{Gone, Mark, Parcel}
pub use Rattle.ipcz_base.specs.declared.link_end.LinkEnd.{LinkEnd}
pub use Rattle.ipcz_base.specs.declared.link_id.LinkId.{LinkId}
pub use Rattle.ipcz_base.specs.declared.link_id.LinkId.TheVariants.{Central, Peripheral}
pub use Rattle.ipcz_base.specs.declared.message.Message.{Message}
pub use Rattle.ipcz_base.specs.declared.profile.Profile.{Profile}
pub use Rattle.ipcz_base.specs.declared.profile.Profile.TheVariants.{Printed, Wide}
pub use Rattle.ipcz_base.specs.declared.refusal.Refusal.{Refusal}
pub use Rattle.ipcz_base.specs.declared.side.Side.{Side}
pub use Rattle.ipcz_base.specs.declared.side.Side.TheVariants.{A, B}
pub use Rattle.ipcz_edge.specs.Edge.{Edge, edge_decays, edge_has, no_edge}
pub use Rattle.ipcz_node.specs.Acts.{are_empty, first_number, has_mail_for}
unfoldable pub use Rattle.ipcz_node.specs.Acts.{act_lacks_serials, close_turn, commit, commit_router, first_of, is_quiet, keep_or_drop, post_of}
unfoldable pub use Rattle.ipcz_node.specs.Acts.{rest_of, router_turn}
pub use Rattle.ipcz_node.specs.Calls.{close_at_router, close_end, close_node, get_at_router, get_node, open_node, put_at_router, put_node}
pub use Rattle.ipcz_node.specs.Calls.{serials_refusal}
unfoldable pub use Rattle.ipcz_node.specs.Calls.{close_refusal, get_refusal, put_refusal}
unfoldable pub use Rattle.ipcz_node.specs.Events.{event_of}
pub use Rattle.ipcz_node.specs.Hands.{flushed, make_terminals, take_in}
unfoldable pub use Rattle.ipcz_node.specs.Hands.{deliver, fits, handle, is_hand_of, tell}
pub use Rattle.ipcz_node.specs.Lone.{SendsNext}
pub use Rattle.ipcz_node.specs.Node.{Found, Node, add_end, add_router, bare_node, flagged_router, holds_end, is_named, is_terminal_of, link_router}
pub use Rattle.ipcz_node.specs.Node.{new_end, outbox, push_out, router_in, terminal_of, with_outbox, with_router, without_router}
unfoldable pub use Rattle.ipcz_node.specs.Node.{on_found, on_router}
pub use Rattle.ipcz_node.specs.Sends.{Transfer, move_ends, moved_ends}
unfoldable pub use Rattle.ipcz_node.specs.Sends.{move_found, send, send_item}
pub use Rattle.ipcz_node.specs.declared.act.Act.{Act}
pub use Rattle.ipcz_node.specs.declared.act.Act.TheVariants.{Close, Hand, Idle, Look, Post}
pub use Rattle.ipcz_node.specs.declared.happened.Happened.{Happened}
unfoldable pub use Rattle.ipcz_router.specs.ActEffects.{apply, discard_output, item_output, leaves_by, message_output, output_of}
pub use Rattle.ipcz_router.specs.ActTable.{is_done, may_take}
unfoldable pub use Rattle.ipcz_router.specs.ActTable.{is_possible, is_rest}
pub use Rattle.ipcz_router.specs.Acts.{drop_item, has_gone_next, pop_out, rest, send_on, way_in, way_out}
unfoldable pub use Rattle.ipcz_router.specs.Acts.{item_passes}
pub use Rattle.ipcz_router.specs.Bypass.{accept_bypass, accept_message, bypass_peer, proxy_will_stop, stop_proxying}
unfoldable pub use Rattle.ipcz_router.specs.Bypass.{stop_message, will_stop_message}
pub use Rattle.ipcz_router.specs.Calls.{descriptor_of, next_number}
unfoldable pub use Rattle.ipcz_router.specs.Calls.{accept}
pub use Rattle.ipcz_router.specs.Router.{Router, decays, from_descriptor, inward_edge, is_on_central, is_proxy, is_sink, is_terminal, outward_has}
pub use Rattle.ipcz_router.specs.Router.{primary_word, router_has, source_of}
pub use Rattle.ipcz_router.specs.declared.act.Answer.{Answer}
pub use Rattle.ipcz_router.specs.declared.act.Answer.TheVariants.{Plain}
pub use Rattle.ipcz_router.specs.declared.act.Applied.{Applied}
pub use Rattle.ipcz_router.specs.declared.act.RouterAct.{RouterAct}
pub use Rattle.ipcz_seq.specs.Queue.{Queue, current_item, item_at}
unfoldable pub use Rattle.ipcz_seq.specs.Queue.{reach}
unfoldable pub use Rattle.ipcz_word.specs.SideSets.{has, none}
pub use Rattle.ipcz_word.specs.Word.{Locks, Plan, Refuses, Waits, Word}
unfoldable pub use Rattle.ipcz_word.specs.Word.{empty_word, open_word, plan_of}
pub use Rattle.ipcz_world.specs.Asking.{can_act}
pub use Rattle.ipcz_world.specs.Books.{Books, add_put, has_mark, is_closed, is_retired, no_books, read}
unfoldable pub use Rattle.ipcz_world.specs.Books.{advance, after_turn}
pub use Rattle.ipcz_world.specs.Bypasses.{BypassRecords, HasStage, IsBypassRecorded, LiveLinks, Moves, Stages, Controls, fresh_of, inner_of, moving_link}
unfoldable pub use Rattle.ipcz_world.specs.Bypasses.{control_weight, move_weight, of_bypass}
pub use Rattle.ipcz_world.specs.FastPath.{IsLone, IsPassing, with_hand}
pub use Rattle.ipcz_world.specs.Coding.{WordTable}
pub use Rattle.ipcz_world.specs.Flows.{IsUnderWay, is_made_before, is_made_by, of_end}
unfoldable pub use Rattle.ipcz_world.specs.Flows.{makes, moves_of, under_way}
pub use Rattle.ipcz_world.specs.Inv.{Inv}
pub use Rattle.ipcz_world.specs.Lawful.{Lawful}
pub use Rattle.ipcz_world.specs.Lawfulness.{IsLawful}
pub use Rattle.ipcz_world.specs.Numbers.{FreshNumbers, HasFreshNumbers, IsItemUnderWay, Items, Order, ProxyNumbers}
unfoldable pub use Rattle.ipcz_world.specs.Numbers.{has_passed, standing_router}
pub use Rattle.ipcz_world.specs.Owed.{AreFlagged, FlagsAgree, IsRanked}
pub use Rattle.ipcz_world.specs.Places.{Weight, at_end, from_number, names_end, times}
unfoldable pub use Rattle.ipcz_world.specs.Places.{in_router}
pub use Rattle.ipcz_world.specs.Ranks.{Rates, worth}
unfoldable pub use Rattle.ipcz_world.specs.Ranks.{node_worth, rank, router_worth}
pub use Rattle.ipcz_world.specs.Records.{At, CentralRecord, Fresh, Linked, Lost, Moving, Nowhere, Opening, Owner, Records, Retired, Spare, Terminal}
pub use Rattle.ipcz_world.specs.Records.{Unclaimed, across_side, inner_link, is_begun, key_at, proxy_side, routes_of, side_length}
unfoldable pub use Rattle.ipcz_world.specs.Records.{bypass_length, bypass_of, is_left, is_linked, is_lost_owner, is_nowhere, is_recorded}
unfoldable pub use Rattle.ipcz_world.specs.Records.{is_unclaimed, known_from, length_by, side_end, side_node, side_router, terminal_descriptor}
unfoldable pub use Rattle.ipcz_world.specs.Records.{terminal_node}
pub use Rattle.ipcz_world.specs.Routes.{Routes}
unfoldable pub use Rattle.ipcz_world.specs.Routes.{routes_after, routes_after_turn}
pub use Rattle.ipcz_world.specs.SettleLimit.{higher, highest}
pub use Rattle.ipcz_world.specs.Settling.{IsQuiet, next_node}
pub use Rattle.ipcz_world.specs.Soundness.{HasLengths}
pub use Rattle.ipcz_world.specs.Standing.{Awaited, Standing, has_decaying, has_inward_decaying, has_inward_primary, has_primary, view}
unfoldable pub use Rattle.ipcz_world.specs.Standing.{awaited_view, fed_queue, is_attached, is_awaited, is_gone, key_passes, may_have_sent, next_sent}
unfoldable pub use Rattle.ipcz_world.specs.Standing.{passes, router_view, sending_queue, spare_of, taking_queue, view_by}
pub use Rattle.ipcz_world.specs.Steps.{Effect, GivesOrNoMemory, StepAny, at_node, claim_for_open, close_step, open_step, open_with, refuse, turn_step}
unfoldable pub use Rattle.ipcz_world.specs.Steps.{open_on, unless}
pub use Rattle.ipcz_world.specs.Structure.{Counts, HasLinks, HasPositions, HasShape, HasWord, IsOrdered, IsRecorded, Links, Ordered, Positions, Shape}
pub use Rattle.ipcz_world.specs.Structure.{Spares, Stands, Words, has_role, is_begun_router, link_in}
unfoldable pub use Rattle.ipcz_world.specs.Structure.{is_outward}
pub use Rattle.ipcz_world.specs.Taking.{IsRegular}
pub use Rattle.ipcz_world.specs.Turns.{router_of, seen_at}
unfoldable pub use Rattle.ipcz_world.specs.Turns.{after_act, after_hand, after_look, after_post, after_router_act, can_take, full_message}
unfoldable pub use Rattle.ipcz_world.specs.Turns.{hand_message, is_clear, is_full, is_idle, may_act, next_at, router_seen, turn_event}
unfoldable pub use Rattle.ipcz_world.specs.Turns.{turn_lacks_serials}
pub use Rattle.ipcz_world.specs.Visiting.{Walk}
pub use Rattle.ipcz_world.specs.Whereabouts.{BooksKept, Conserved, EndPlaces, Gones, HasEndsHere, HasTerminal, HeldOnce, RetiredEnds, Terminals}
pub use Rattle.ipcz_world.specs.Whereabouts.{times_held}
unfoldable pub use Rattle.ipcz_world.specs.WordAnswers.{answer_of, link_answer, source_for, touch, touch_word, word_answer}
pub use Rattle.ipcz_world.specs.World.{Key, World, has_unclaimed_word, node_limit, numbers_from, set_router, way}
unfoldable pub use Rattle.ipcz_world.specs.World.{flow, mail_at, messages_in, new_world, node_at, router_at, same_key, set_claimed, set_mail}
unfoldable pub use Rattle.ipcz_world.specs.World.{set_node, set_word, word_at}
pub use Rattle.ipcz_world.specs.WorldLaws.{StepKeepsLawful}
pub use Rattle.ipcz_world.specs.contracts.state.State.{the_view}
pub use Rattle.ipcz_world.specs.declared.mail.Mail.{Mail}
pub use Rattle.ipcz_world.specs.declared.mail.Mail.TheVariants.{Empty}
pub use Rattle.ipcz_world.specs.declared.step.Reply.{Reply}
pub use Rattle.ipcz_world.specs.declared.step.Step.{Step}
pub use Rattle.ipcz_world.specs.declared.step.Step.TheVariants.{Turn}
