pub mod PlacesOfBreaks
