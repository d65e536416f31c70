use Rattle.std.proofs.Common.{◌∙◌, ap, option_map}
use Rattle.matchit.specs.Seek.{first}
use Rattle.matchit.specs.Rows.{RowsOf}
use Rattle.matchit.specs.Router.{RouteOf}
use Rattle.cite_http.specs.declared.route.Route.{Route}
use Rattle.cite_http.proofs.RouterFinds.{router_finds, text_from}
use Rattle.cite_http.proofs.router.find_route.Goals as goal

pub returns : goal.returns
returns c =
    c.look_up.ensures
    ∙ ap (λ (rows : RowsOf (RouteOf Route)). option_map (λ (row : RouteOf Route). row.value) (first rows c.args.path.now)) c.requires
    ∙ router_finds c.args.path.now (text_from c.args.path.now c.type_inv.path)
