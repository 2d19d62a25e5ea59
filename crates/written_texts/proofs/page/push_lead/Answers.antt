use Rattle.std.proofs.Common.{string_bytes}
use Rattle.std.specs.Str.Iter.{chars_rest}
use Rattle.std.proofs.lemmas.Str.{IsUtf8-past_char}
use Rattle.written_texts.proofs.Leads.{lead_more, lead_end}
use Rattle.written_texts.proofs.page.push_lead.Goals as goal

pub loop-c-preserved : goal.loop-c-preserved
loop-c-preserved c =
    let rest = chars_rest c.loop-c.c-iterator in
    let after = chars_rest c.next.new.self in
    let read = c.in-Some.ensures.steps.0 in
    record {
      can = tt;
      finite = tt;
      utf8 = IsUtf8-past_char rest after c.in-Some.c c.loop-c.invariant.utf8 read;
      made = lead_more _ (string_bytes c.loop-c.text) (string_bytes c.push_lead_char.new.text) rest after c.in-Some.c c.loop-c.invariant.utf8 read c.in_ok-push_lead_char.ensures c.loop-c.invariant.made;
    }

pub returns : goal.returns
returns c = lead_end _ (string_bytes c.loop-c.text) (chars_rest c.loop-c.c-iterator) c.in-None.ensures.steps.0.0 c.loop-c.invariant.made
