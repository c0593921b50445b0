-- What each kind of atomic step makes of the part of its seat's node.
use Rattle.std.specs.Prelude.{◌≡◌, ℕ, Bool, true, false, Option, Some, None, List, [], ◌∷◌, ◌++◌}
use Rattle.ipcz_base.specs.declared.end.End.{End}
use Rattle.ipcz_base.specs.declared.item.Item.{Item}
use Rattle.ipcz_base.specs.declared.item.Item.TheVariants.{Parcel, Mark, Gone}
use Rattle.ipcz_base.specs.declared.parcel.Parcel as parcels
use Rattle.ipcz_base.specs.declared.message.Message.{Message}
use Rattle.ipcz_base.specs.declared.message.Message.TheVariants as messages
use Rattle.ipcz_base.specs.declared.side.Side.{Side}
use Rattle.ipcz_word.specs.Layout.{word_of_bits}
use Rattle.ipcz_router.specs.Router.{Router}
use Rattle.ipcz_router.specs.ActTable.{may_take}
use Rattle.ipcz_router.specs.declared.act.RouterAct.{RouterAct}
use Rattle.ipcz_router.specs.declared.act.RouterAct.TheVariants as router_acts
use Rattle.ipcz_router.specs.declared.act.Answer.{Answer}
use Rattle.ipcz_router.specs.declared.act.Answer.TheVariants as answers
use Rattle.ipcz_node.specs.declared.act.Act.{Act}
use Rattle.ipcz_node.specs.declared.act.Act.TheVariants as acts
use Rattle.ipcz_node.specs.Node.{Node, router_in}
use Rattle.ipcz_node.specs.Finding.{rewet_node}
use Rattle.ipcz_node.specs.Acts.{commit, act_lacks_serials}
use Rattle.ipcz_router.specs.Calls.{next_number}
use Rattle.ipcz_node.specs.Calls.{put_node, put_number, get_node, close_node, open_node}
use Rattle.ipcz_node.specs.Hands.{deliver}
use Rattle.ipcz_world.specs.WordAnswers.{word_answer}
use Rattle.ipcz_world.specs.Wordless.{is_wordless}
use Rattle.ipcz_rule.specs.declared.view.View.{View}
use Rattle.ipcz_rule.specs.declared.view.Part.{Part}
use Rattle.ipcz_rule.specs.Rule.{with_part, with_state, saw, without_number}

-- the part with an item more that was put
abbrev pub add_put_entry : End → ℕ → Item → Part → Part
add_put_entry e n item p = record {
  node = p.node;
  state = p.state;
  message = p.message;
  probed = p.probed;
  batches = p.batches;
  put = p.put ++ ((e, n), item) ∷
      [];
  got = p.got;
  gone = p.gone;
  history = p.history;
}

-- the part with a parcel more that was got
abbrev pub add_got_entry : End → ℕ → parcels.Parcel → Part → Part
add_got_entry e n q p = record {
  node = p.node;
  state = p.state;
  message = p.message;
  probed = p.probed;
  batches = p.batches;
  put = p.put;
  got = p.got ++
      ((e, n), q) ∷ [];
  gone = p.gone;
  history = p.history;
}

-- the part with an item more that was dropped
abbrev pub add_gone_entry : End → ℕ → Part → Part
add_gone_entry e n p = record {
  node = p.node;
  state = p.state;
  message = p.message;
  probed = p.probed;
  batches = p.batches;
  put = p.put;
  got = p.got;
  gone = p.gone ++ (e, n) ∷ [];
  history = p.history;
}

-- the part after a put
abbrev pub put_part : End → List ℕ → List End → Part → Part
put_part at bytes ends p =
    add_put_entry at (put_number p.state at) (Parcel (record { bytes = bytes; ends = ends }))
    (with_state (put_node p.state at (record { bytes = bytes; ends = ends })) p)

-- the part after a get of the parcel of a number
abbrev pub get_part : End → ℕ → parcels.Parcel → Part → Part
get_part at number q p = add_got_entry at number q (with_state (get_node p.state at) p)

-- the part after a close
abbrev pub close_part : End → Part → Part
close_part at p = add_put_entry at (put_number p.state at) Mark (with_state (close_node p.state at) p)

-- the part with a word claimed for an open
abbrev pub claimed_part : ℕ → Part → Part
claimed_part i p = with_state (record p.state { opening = Some i }) p

-- the part after an open on a word
abbrev pub open_part : ℕ → Part → Part
open_part i p = with_state (open_node p.state i) p

-- the part in which the router of a serial may claim again
abbrev pub wet_part : ℕ → Part → Part
wet_part serial p = with_state (rewet_node p.state serial) p

-- the part with the item dropped that the router which stands there is at
abbrev pub dropped_part : Option Router → Part → Part
dropped_part None p = p
dropped_part (Some r) p = add_gone_entry r.end r.in_queue.current p

-- the part with Gone put at the end of the router that stands there
abbrev pub retired_part : Option Router → Part → Part
retired_part None p = p
retired_part (Some r) p = add_put_entry r.end (next_number r) Gone p

-- what an act of a node writes into its part of the books: a pending close its mark, a discard that an item is gone, a retire Gone
abbrev pub written_part : Node → Act → Part → Part
written_part n (acts.Hand from) p = p
written_part n (acts.Look from) p = p
written_part n (acts.Post to) p = p
written_part n (acts.Close e) p = add_put_entry e (put_number n e) Mark p
written_part n (acts.Router serial router_acts.Discard) p = dropped_part (router_in n serial) p
written_part n (acts.Router serial router_acts.Retire) p = retired_part (router_in n serial) p
written_part n (acts.Router serial other) p = p
written_part n acts.Idle p = p

-- the part after an act of its node with its answer; those about mailboxes have their own below
abbrev pub act_part : Act → Answer → Part → Part
act_part act a p = written_part p.state act (with_state (commit p.state act a) p)

-- what an act of a router needs of its node
pub record CanAct (x : Node) (serial : ℕ) (r : Router) (act : RouterAct) : Type 0 where
  pub there : router_in x serial ≡ Some r
  pub may : may_take r act ≡ true
  pub serials : act_lacks_serials x (acts.Router serial act) ≡ false

-- acts of a node that a touch does: a close, and what a router does without asking anything of a link word
abbrev pub is_touch_act : Act → Bool
is_touch_act (acts.Router serial act) = is_wordless act
is_touch_act (acts.Close e) = true
is_touch_act other = false

-- acts on the word of the outward primary link
abbrev pub is_on_word : RouterAct → Bool
is_on_word router_acts.Mark = true
is_on_word router_acts.Wake = true
is_on_word router_acts.Lock = true
is_on_word router_acts.Unlock = true
is_on_word other = false

-- the view after an act of a router of a side on the word i, if it was found at n
abbrev pub acted_view : ℕ → ℕ → ℕ → Side → Option ℕ → RouterAct → Part → View → View
acted_view i n serial side source act p v = with_part (act_part (acts.Router serial act) (word_answer (word_of_bits n) side source act) p)
    (saw i n v)

-- the part of a node that has probed the mailbox to another
abbrev pub probe_part : ℕ → Part → Part
probe_part to p = record {
  node = p.node;
  state = p.state;
  message = p.message;
  probed = to ∷
      p.probed;
  batches = p.batches;
  put = p.put;
  got = p.got;
  gone = p.gone;
  history = p.history;
}

-- the part of a node that has given back the mailbox to another
abbrev pub unprobe_part : ℕ → Part → Part
unprobe_part to p = record {
  node = p.node;
  state = p.state;
  message = p.message;
  probed = without_number p.probed to;
  batches = p.batches;
  put = p.put;
  got = p.got;
  gone = p.gone;
  history = p.history;
}

-- the part of a node that has posted to another
abbrev pub post_part : ℕ → Part → Part
post_part to p = record {
  node = p.node;
  state = commit p.state (acts.Post to) answers.Plain;
  message = p.message;
  probed = without_number p.probed to;
  batches = p.batches;
  put = p.put;
  got = p.got;
  gone = p.gone;
  history = p.history;
}

-- the part of a node that has taken a message of this sender into its hand
abbrev pub look_part : ℕ → Message → Part → Part
look_part from x p = record {
  node = p.node;
  state = commit p.state (acts.Look from) answers.Plain;
  message = Some x;
  probed = p.probed;
  batches = p.batches;
  put = p.put;
  got = p.got;
  gone = p.gone;
  history = p.history;
}

-- the source that a message in hand has by the rule: an AcceptBypass comes from the node that the old link's word names
unfoldable pub trusted : ℕ → Message → Option ℕ
trusted from (messages.AcceptBypass old side fresh length) = Some from
trusted from other = None

-- the word of the old link that an AcceptBypass names; no other message asks for a source
abbrev pub old_word : Message → Option ℕ
old_word (messages.AcceptBypass old side fresh length) = Some old
old_word other = None

-- the part of a node that has handled this message in its hand, for which the word of the old link names this source
abbrev pub hand_part : ℕ → Option ℕ → Message → Part → Part
hand_part from source x p = record {
  node = p.node;
  state = deliver p.state from x source;
  message = None;
  probed = p.probed;
  batches = p.batches;
  put = p.put;
  got = p.got;
  gone = p.gone;
  history = p.history;
}
