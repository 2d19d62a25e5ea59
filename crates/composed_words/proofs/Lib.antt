mod Compositions
mod LawsOfPlaces
mod Places
mod PlacesOfSegments
mod Ranges
