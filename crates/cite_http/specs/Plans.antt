-- What a plan asks for, with a body. Clauses of private functions alone cite it.
use Rattle.std.specs.Prelude.{ℕ, List, ◌∷◌, ◌++◌}
use Rattle.cite_http.specs.declared.ask.Ask.{Ask}
use Rattle.cite_http.specs.declared.ask.Ask.TheVariants as ask
use Rattle.cite_http.specs.declared.plan.Name.{Name}
use Rattle.cite_http.specs.declared.plan.Plan.{Plan}
use Rattle.cite_http.specs.declared.plan.Plan.TheVariants.{State, Page, Bytes, Metadata, Batch, Cite, Migrate, Bad}

-- the text of a name: its prefix, a slash, and its suffix
abbrev pub text_of : Name → List ℕ
text_of name = name.prefix.now ++ 47 ∷ name.suffix.now

-- what a plan asks for
abbrev pub ask_of : Plan → List ℕ → Ask
ask_of State body = ask.State
ask_of (Page name) body = ask.Page (text_of name)
ask_of (Bytes name) body = ask.Bytes (text_of name)
ask_of (Metadata name) body = ask.Metadata (text_of name)
ask_of (Batch schema curator number) body = ask.Batch (record { schema = schema; curator = curator.now; number = number; body = body })
ask_of Cite body = ask.Cite body
ask_of (Migrate schema) body = ask.Migrate schema body
ask_of (Bad status) body = ask.Bad status
