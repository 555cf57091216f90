-- A rank of states that stands beside the table: each time that a token is read again, that is in a state of lower rank
use Rattle.std.specs.Prelude.{ℕ, suc, ◌≡◌, ◌≤◌, Bool, true, false, Some, None, if◌then◌else◌}
use Rattle.ecma_role_table.specs.declared.part.PartKind.{PartKind}
use Rattle.ecma_role_table.specs.declared.part.PartKind.TheVariants.{Reserved, Sign}
use Rattle.ecma_role_table.specs.declared.part.Reserved.TheVariants as reserved
use Rattle.ecma_role_table.specs.declared.part.Sign.TheVariants as sign
use Rattle.ecma_role_table.specs.declared.state.State.{State}
use Rattle.ecma_role_table.specs.declared.state.State.TheVariants as state
use Rattle.ecma_role_table.specs.declared.moves.Move.{Move}
use Rattle.ecma_role_table.specs.declared.moves.Move.TheVariants as move
use Rattle.ecma_role_table.specs.declared.moves.Turn.{Turn}
use Rattle.ecma_role_table.specs.declared.moves.Turn.TheVariants.{Again, Done}
use Rattle.ecma_role_tracks.specs.Track.{TrackView, read_once, read_times, reading}

-- what ends an operand or goes on with one, wherever it stands
unfoldable pub goes_on : PartKind → Bool
goes_on (Sign sign.RParen) = true
goes_on (Sign sign.RBracket) = true
goes_on (Sign sign.RBrace) = true
goes_on (Sign sign.Semi) = true
goes_on (Sign sign.Comma) = true
goes_on (Sign sign.Colon) = true
goes_on (Sign sign.Dot) = true
goes_on (Sign sign.Arrow) = true
goes_on (Sign sign.QuestionMark) = true
goes_on (Sign sign.Gt) = true
goes_on (Sign sign.RShift) = true
goes_on (Sign sign.ZeroFillRShift) = true
goes_on kind = false

-- a word that begins statements and nothing else
unfoldable pub begins_statements : PartKind → Bool
begins_statements (Reserved reserved.Case) = true
begins_statements (Reserved reserved.Default) = true
begins_statements (Reserved reserved.Control) = true
begins_statements (Reserved reserved.With) = true
begins_statements (Reserved reserved.For) = true
begins_statements (Reserved reserved.Return) = true
begins_statements (Reserved reserved.Break) = true
begins_statements (Reserved reserved.BeforeStatement) = true
begins_statements (Reserved reserved.Declare) = true
begins_statements (Reserved reserved.Export) = true
begins_statements (Reserved reserved.Enum) = true
begins_statements kind = false

-- where a statement, a member or a key begins, where an operand is expected, and where one is complete
abbrev pub rank_of_begins : PartKind → ℕ
rank_of_begins kind = if goes_on kind then 2 else if begins_statements kind then 0 else 1

abbrev pub rank_of_operand : PartKind → ℕ
rank_of_operand kind = if goes_on kind then 1 else if begins_statements kind then 1 else 0

abbrev pub rank_of_after : PartKind → ℕ
rank_of_after kind = if goes_on kind then 0 else 2

abbrev pub rank : State → PartKind → ℕ
rank state.Statement kind = rank_of_begins kind
rank state.ExportDefault kind = rank_of_begins kind
rank state.Restricted kind = 3
rank state.Break kind = 3
rank state.Default kind = 3
rank state.Control kind = 3
rank state.ForKeyword kind = 3
rank state.ForHead kind = 3
rank state.MaybeLet kind = 4
rank state.MaybeType kind = 4
rank state.MaybeInterface kind = 4
rank state.EnumHead kind = 3
rank state.Binding kind = 3
rank state.AfterBinding kind = 3
rank state.Label kind = 3
rank state.ImportStart kind = 4
rank state.Import kind = 3
rank state.ImportAll kind = 4
rank state.ImportAs kind = 4
rank state.ImportEnd kind = 3
rank state.ImportWith kind = 3
rank state.ImportEquals kind = 3
rank state.ImportEqualsName kind = 3
rank state.Export kind = 3
rank state.ExportType kind = 5
rank state.ExportEnd kind = 3
rank state.Clause kind = 3
rank state.Head kind = 3
rank state.HeadEnd kind = 3
rank state.ClassHead kind = 3
rank state.Member kind = rank_of_begins kind
rank state.MemberAsync kind = 3
rank state.Key kind = rank_of_begins kind
rank state.KeyAsync kind = 3
rank state.KeyComma kind = 3
rank state.KeyCommaName kind = 3
rank state.KeyCommaParameter kind = 3
rank state.AliasHead kind = 3
rank state.InterfaceHead kind = 3
rank state.Decorator kind = 4
rank state.AfterDecorator kind = 3
rank state.Operand kind = rank_of_operand kind
rank state.Conditional kind = 3
rank state.ArrowBody kind = 3
rank state.Quasi kind = 0
rank state.After kind = rank_of_after kind
rank state.AfterPostfix kind = 3
rank state.Group kind = 3
rank state.GroupParameters kind = 3
rank state.AsyncGroup kind = 3
rank state.AsyncGroupParameters kind = 3
rank state.Async kind = 3
rank state.AsyncStatement kind = 4
rank state.AsyncAs kind = 5
rank state.AsyncParameter kind = 3
rank state.TypeParameter kind = 3
rank state.AsyncTypeArguments kind = 4
rank state.TypeArguments kind = 3
rank state.FunctionTypeArguments kind = 3
rank state.ImportExpression kind = 3
rank state.Property kind = 3
rank state.OptionalProperty kind = 3
rank state.ArrowEnd kind = 3
rank state.TypeOperand kind = 4
rank state.TypeName kind = 4
rank state.TypeEnd kind = 4
rank state.TypeParameters kind = 4
rank state.Asserts kind = 5
rank state.TypeProperty kind = 5
rank state.TypeParen kind = 7
rank state.TypeParenName kind = 7
rank state.TypeBrackets kind = 6

-- more than the rank of each state in which a token may be read again
abbrev pub rank_of_fresh : PartKind → ℕ
rank_of_fresh kind = if goes_on kind then 2 else 1

abbrev pub height : Move → PartKind → ℕ
height (move.Again state change) kind = suc (rank state kind)
height move.Fresh kind = suc (rank_of_fresh kind)
height move.FreshOperand kind = suc (rank_of_fresh kind)
height move.FreshBrace kind = suc (rank_of_fresh kind)
height move.FreshWord kind = suc (rank_of_begins kind)
height move.NoBody kind = 3
height move.NoClassBody kind = 3
height move.NoDecorator kind = 3
height move.EndType kind = 4
height (move.TypeGreater angles has_equals) kind = 6
height other kind = 0

abbrev pub turn_height : Turn → ℕ
turn_height (Done state) = 0
turn_height (Again state kind) = suc (rank state kind)

-- each time that a token is read again, that is in a state of lower rank
abbrev pub RanksFall : Type 0
RanksFall = (t : TrackView) (kind : PartKind) (had_line_break : Bool) → turn_height (read_once t kind had_line_break).turn ≤ rank t.state kind

-- no token is left over
abbrev pub TokensAreReadOut : Type 0
TokensAreReadOut = (t : TrackView) (kind : PartKind) (had_line_break : Bool) → (read_times 8 had_line_break (reading t (Some kind))).left ≡ None
