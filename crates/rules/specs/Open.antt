-- Every rule, opened: a proof that computes says `unfolding rules`.
use Rattle.store.specs.Words
use Rattle.store.specs.Page as PageIds
use Rattle.store.specs.Size
use Rattle.heap.specs.Constant
use Rattle.datom.specs.Value
use Rattle.datom.specs.Datom
use Rattle.index.specs.Order
use Rattle.rules.specs.Page
use Rattle.rules.specs.Node
use Rattle.rules.specs.Tree
use Rattle.rules.specs.Lookup
use Rattle.rules.specs.Store
use Rattle.rules.specs.Insert
use Rattle.rules.specs.Append
use Rattle.rules.specs.Calls
use Rattle.rules.specs.Entry
use Rattle.rules.specs.Listing
use Rattle.rules.specs.Check
use Rattle.rules.specs.Held
use Rattle.rules.specs.Table

unfoldable pub rules : Unit {0}
unfolding Words.little Words.bytes_of Words.word_at Words.cells Words.spread Words.pad Words.patch PageIds.is_none PageIds.page_of PageIds.page_bytes Size.capacity_in Size.capacity Size.room_for Size.scratch_need Value.is_int Value.str_len Value.is_str Constant.up_to8 Constant.all_zero Constant.word_there Constant.bytes_there Constant.integer_at Constant.bytes_at Constant.valid_int Constant.padded Constant.valid_str Value.is_max Value.names_int Value.names_str Value.offset_of Value.formed_value Value.stored_value Value.bound_value Value.inline_content Value.named_int Value.named_str Value.content Datom.datom_at Datom.datom_of Datom.datom_bytes Datom.formed_datom Datom.stored_datom Datom.bound_datom Order.and_then Order.cmp_bytes Order.cmp_content Order.cmp_value Order.cmp_part Order.cmp_parts Order.parts_of Order.index_of Order.order_in Order.is_less Order.is_same Order.named Page.node_of Page.level_of Page.count_of Page.encode_page Page.all Page.above Page.rising Page.older Page.child_rules Page.node_rules Page.read_page Node.is_midpoint Node.next_midpoint Node.rank_by Node.head_same Node.merge_datoms Node.merge_children Node.merge_node Node.meets Node.span_from Node.longest_span Node.any_pending Node.pages_for Node.share Node.parts Node.between Node.split_parts Node.split_up Node.splice Tree.then Tree.at_level Tree.fetch_at Tree.put Tree.put_all Tree.split Tree.is_over Tree.settle Tree.flush Tree.flush_all Tree.insert_merged Tree.insert_into Tree.root_of Tree.write_root Tree.insert_tree Lookup.lookup Lookup.after_look Lookup.lookup_all Store.bad_store Store.bad_scratch Store.bad_root Store.fetch_fault Store.fetch_answer Store.page_at Store.fetched Store.fetch_page Store.env_of Store.store_after Insert.outcome Insert.store_fault Insert.count_fault Insert.form_fault Insert.word_fault Insert.low_fault Insert.order_fault Insert.has_same Insert.twin_fault Insert.root_fault Insert.place Insert.sort Insert.leaf_of Insert.write_fresh Insert.insert_at Insert.insert_under Insert.insert_counted Insert.initialise_counted Insert.insert Insert.initialise Insert.bytes_fault Insert.insert_bytes Insert.initialise_bytes Append.bad_heap Append.heap_full Append.constant_bytes Append.append_fault Append.append_constant Append.append_word Append.append_text Append.heap_after Calls.record_fault Calls.insert_call Calls.initialise_call Calls.insert_bytes_call Calls.initialise_bytes_call Calls.held_call Calls.start_call Calls.step_call Calls.check_call Entry.word_bytes Entry.reply_in Entry.insert_reply Entry.insert_named_reply Entry.initialise_reply Listing.frames_from Listing.eight Listing.cursor_of Listing.path_by Listing.join_paths Listing.start_at Listing.start_under Listing.start_list Listing.open_one Listing.open_frames Listing.after Listing.choose Listing.least_of Listing.same_indices Listing.moved Listing.onward Listing.step_list Listing.list_from Listing.listing Check.above_lower Check.below_upper Check.check_child Check.midpoint_next Check.walk Check.check_at Check.check_root Check.check_tree Held.after_held Held.held_all Held.held_at Held.held_tree Held.held_counted Held.held_fault Held.held_bytes Table.d Table.run Table.went Table.inserts Table.calls Table.holding Table.see_tree Table.see Table.row Table.leaf Table.inner Table.small Table.bytes6 Table.starred
rules = tt
