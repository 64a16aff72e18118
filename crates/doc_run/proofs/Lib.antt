mod SiteLaws
mod NamedLaws
