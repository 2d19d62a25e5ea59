-- The blocks and states that the code holds, as texts.
use Rattle.std.specs.Prelude.{◌≡◌, List, ◌++◌, map, option_map}
use Rattle.std.specs.String.{string_bytes}
use Rattle.written_texts.specs.Prefixes as texts
use Rattle.written_texts.specs.Blocks.{Paragraph, Block, Line, Filled, State, Step}
use Rattle.written_texts.specs.declared.blocks.Block as code
use Rattle.written_texts.specs.declared.blocks.Block.TheVariants as variants
use Rattle.written_texts.specs.declared.blocks.Paragraph as code_paragraph
use Rattle.written_texts.specs.declared.blocks.Prefix as code_prefix
use Rattle.written_texts.specs.declared.blocks.State as code_state

-- A prefix as texts.
abbrev pub prefix_of : code_prefix.Prefix → texts.Prefix
prefix_of prefix = record { quote = prefix.quote.now; lead = prefix.lead.now }

-- A paragraph as texts.
abbrev pub paragraph_of : code_paragraph.Paragraph → Paragraph
paragraph_of p = record {
  first = prefix_of p.first;
  others = prefix_of p.others;
  settled = p.settled;
  text = string_bytes p.text;
}

-- A block as texts.
abbrev pub block_of : code.Block → Block
block_of (variants.Line line) = Line line.now
block_of (variants.Filled p) = Filled (paragraph_of p)

-- Blocks as texts.
abbrev pub blocks_of : List code.Block → List Block
blocks_of blocks = map block_of blocks

-- A state as texts.
abbrev pub state_of : code_state.State → State
state_of state = record {
  place = state.place;
  current = option_map paragraph_of state.current;
  gap = option_map (λ quote. quote.now) state.gap;
}

-- A paragraph as a block.
abbrev pub filled : code_paragraph.Paragraph → Block
filled p = Filled (paragraph_of p)

-- A step was taken: its blocks were added, and its state is the new one.
pub record Takes (step : Step) (old new : List code.Block) (state : code_state.State) : Type 0 where
  pub added : blocks_of new ≡ blocks_of old ++ step.blocks
  pub after : state_of state ≡ step.state
